-- What becomes of functions is well formed: of their expressions, and of their bodies behind the functions before them.
use Rattle.std.proofs.Common.{◌≡◌, ◌∙◌, refl, sym, ap, subst, ℕ, zero, suc, ◌+◌, ◌<◌, false, List, [], ◌∷◌, ◌++◌, map, length, take, Option, None, Some, slice_get}
use Rattle.std.proofs.lemmas.List.{append_assoc, append-nil}
use Rattle.std.proofs.lemmas.Option.{none-some, same_Some}
use Rattle.std.proofs.Math.Seq.{take-append_seam}
use Rattle.hl_meaning.specs.Types.{Ty, void_type}
use Rattle.hl_meaning.specs.Trees.{Args, Expr, Form, an_expr, atomic_form, binary_form, build_form, call_form, choose_form, convert_form, intrinsic_form, literal_form, method_form, pick_form, read_form, unary_form, write_form}
use Rattle.hl_meaning.specs.Programs.{Constant, FunctionDef, Program, Variable}
use Rattle.hl_meaning.specs.Places.{Scope, variable_type}
use Rattle.hl_meaning.specs.WellFormed.{ArePassed, IsDeclared, IsExpr, IsFunction, IsWellFormed, callee_params, callee_result, scope_of}
use Rattle.hl_meaning.proofs.LayoutForms.{get-next}
use Rattle.hl_inline.specs.FlatTrees.{flat_local}
use Rattle.typed_laws.proofs.OperandExpressions.{args_exprs, operand_exprs}
use Rattle.hl_inline.specs.UsedUndeclared.{variables_used_undeclared}
use Rattle.hl_inline.specs.EmittedExpressions.{emitter, node}
use Rattle.hl_inline.specs.EmittedStatements.{emit_stmts}
use Rattle.hl_inline.specs.Emitting.{emit_all}
use Rattle.hl_inline.specs.Fresh.{Fresh, Instance}
use Rattle.hl_inline.specs.InlinedCalls.{Inlined, call, inlined_at}
use Rattle.hl_inline.specs.InlinedFunctions.{inlined, inlined_after, outside_loops, zeros_first}
use Rattle.hl_inline.proofs.UsedUndeclaredLemmas.{In, in_first, in_rest, used_undeclared_behind}
use Rattle.typed_laws.proofs.Induction.{every_map, Every, Step, by_operands, every_both, every_from_all}
use Rattle.hl_inline.proofs.OperandLemmas.{args_emitters_all, form_emitter_all}
use Rattle.typed_laws.proofs.OperandValues.{is_call_form}
use Rattle.typed_laws.proofs.Typed.{some_declared, IsValue, ParamsSome, form_values, params_some}
use Rattle.hl_inline.proofs.Fronts.{type_there, type_at}
use Rattle.typed_laws.proofs.Functions.{every_type}
use Rattle.hl_inline.proofs.FlatCode.{AreDeclared, IsCode, code_append, code_where, extends_refl, no_code, one_code}
use Rattle.hl_inline.proofs.FlatForms.{StandsFrom, scope_over}
use Rattle.hl_inline.proofs.FlatExprs.{IsEmitted, all_given, form_given}
use Rattle.hl_inline.proofs.FlatCalls.{InsideExit, IsInlined, StandsAs, call_given}
use Rattle.hl_inline.proofs.FlatStatements.{Inside, stmts_emitted}

-- each function that may be called is known
abbrev pub Callees : (s : Scope) (V : List Variable) → List Inlined → Type 0
Callees s V k = (function : ℕ) (d : FunctionDef) → slice_get s.functions function ≡ Some d → IsInlined (scope_over s V) s.constants d (inlined_at k function)

callees_some : (s : Scope) (V : List Variable) (k : List Inlined) → Callees s V k → (function : ℕ) → ParamsSome (callee_params (slice_get s.functions function))
callees_some s V k callees function = by_callee (slice_get s.functions function) refl
  where
    by_callee : (o : Option FunctionDef) → slice_get s.functions function ≡ o → ParamsSome (callee_params o)
    by_callee None e = tt
    by_callee (Some d) e = params_some d.variables d.parameters (λ v ty typed. some_declared s.structs ty (every_type (IsDeclared s.structs) d.variables (callees function d e).own_declared v ty typed))

module _ (s : Scope) (V : List Variable) (R : Type 0) (k : List Inlined) (i : Instance) (stands : R → StandsFrom s.constants s.variables V i.first) (callees : Callees s V k) where
  -- what each step of the induction shows
  abbrev pub Emitting : Expr → Type 0
  Emitting e = IsExpr s e → IsEmitted (scope_over s V) R e (emitter k i e)

  operands_emitted : (es : List Expr) → Every Emitting es → Every (IsValue s) es → Every (λ e. IsEmitted (scope_over s V) R e (emitter k i e)) es
  operands_emitted es every values =
      every_map (λ e. Emitting e × IsValue s e) (λ e. IsEmitted (scope_over s V) R e (emitter k i e)) (λ e both. both.0 both.1.0) es (every_both Emitting (IsValue s) es every values)

  form_step : (ty : Ty) (at : ℕ) (form : Form) → is_call_form form ≡ false → Every Emitting (operand_exprs form) → Emitting (an_expr ty at form)
  form_step ty at form other every h =
      subst (IsEmitted (scope_over s V) R (an_expr ty at form)) (sym (form_emitter_all k i ty at form other)) emitted
    where
      values : Every (IsValue s) (operand_exprs form)
      values = form_values s (callees_some s V k callees) ty form h.1

      emitted : IsEmitted (scope_over s V) R (an_expr ty at form) (node i ty at form (map (emitter k i) (operand_exprs form)))
      emitted fresh =
          form_given s V R i ty at form fresh (emit_all false (map (emitter k i) (operand_exprs form)) fresh) stands other h
          (all_given (scope_over s V) R false s (emitter k i) (operand_exprs form) refl (operands_emitted (operand_exprs form) every values) values fresh)

  call_step : (ty : Ty) (at function : ℕ) (args : Args) → Every Emitting (args_exprs args) → Emitting (an_expr ty at (call_form function args))
  call_step ty at function args every h = by_callee (slice_get s.functions function) refl h.1.0 h.1.1
    where
      values : Every (IsValue s) (args_exprs args)
      values = form_values s (callees_some s V k callees) ty (call_form function args) h.1

      by_callee : (o : Option FunctionDef) → slice_get s.functions function ≡ o → callee_result o ≡ Some ty → ArePassed s (callee_params o) args →
          IsEmitted (scope_over s V) R (an_expr ty at (call_form function args)) (emitter k i (an_expr ty at (call_form function args)))
      by_callee None e is passed = absurd (none-some ty is)
      by_callee (Some d) e is passed =
          subst (λ l. IsEmitted (scope_over s V) R (an_expr ty at (call_form function args)) (call i ty at (inlined_at k function) l)) (sym (args_emitters_all k i args))
          (call_given s V R i (emitter k i) ty at function args d (inlined_at k function) stands (callees function d e) (same_Some d.result ty is) h.0 passed values (operands_emitted (args_exprs args) every values))

  emit_step : Step Emitting
  emit_step ty at (literal_form word) every h = form_step ty at (literal_form word) refl every h
  emit_step ty at (read_form place) every h = form_step ty at (read_form place) refl every h
  emit_step ty at (write_form to op common value old) every h = form_step ty at (write_form to op common value old) refl every h
  emit_step ty at (convert_form value) every h = form_step ty at (convert_form value) refl every h
  emit_step ty at (unary_form op value) every h = form_step ty at (unary_form op value) refl every h
  emit_step ty at (binary_form op left right) every h = form_step ty at (binary_form op left right) refl every h
  emit_step ty at (choose_form cond consequent alternative) every h = form_step ty at (choose_form cond consequent alternative) refl every h
  emit_step ty at (build_form parts) every h = form_step ty at (build_form parts) refl every h
  emit_step ty at (pick_form value parts) every h = form_step ty at (pick_form value parts) refl every h
  emit_step ty at (call_form function args) every h = call_step ty at function args every h
  emit_step ty at (intrinsic_form number args) every h = form_step ty at (intrinsic_form number args) refl every h
  emit_step ty at (method_form resource count address value) every h = form_step ty at (method_form resource count address value) refl every h
  emit_step ty at (atomic_form target kind compare value original) every h = form_step ty at (atomic_form target kind compare value original) refl every h

  -- what becomes of an expression is well formed
  pub expr_emitted : (e : Expr) → Emitting e
  expr_emitted e h = by_operands Emitting emit_step e h

-- the variables that are set first
zeros_emitted : (S : Scope) (R : Type 0) (T : List ℕ → Type 0) (constants : List Constant) (own : List Variable) (first : ℕ) → (R → StandsFrom constants own S.variables first) → (numbers : List ℕ) → ((v : ℕ) → In numbers v → v < length own) →
    (fresh : Fresh) → IsCode S R T fresh fresh (map (λ variable. flat_local (first + variable) None) numbers)
zeros_emitted S R T constants own first stands [] low fresh = no_code S R T fresh
zeros_emitted S R T constants own first stands (number ∷ numbers) low fresh =
    code_append S R T fresh fresh fresh (flat_local (first + number) None ∷ []) (map (λ variable. flat_local (first + variable) None) numbers)
    (one_code S R T fresh fresh (flat_local (first + number) None) (extends_refl S.structs fresh) (λ r front names below t. (there r (type_at own number (low number (in_first number numbers))), refl)))
    (zeros_emitted S R T constants own first stands numbers (λ v among. low v (in_rest number v numbers among)) fresh)
  where
    there : R → (ty : Ty) × (variable_type own number ≡ Some ty) → first + number < length S.variables
    there r t = type_there S.variables (first + number) t.0 ((stands r).own_type number t.0 t.1)

-- a function behind those before it
function_inlined : (p : Program) (V : List Variable) (number : ℕ) (f : FunctionDef) (k : List Inlined) → IsFunction p number f → Callees (scope_of p number f) V k →
    IsInlined (scope_over (scope_of p number f) V) p.constants f (inlined k f)
function_inlined p V number f k h callees = record {
  parameters = refl;
  variables = refl;
  own_declared = declared;
  numbered = h.numbered;
  body = λ own fresh.
      code_append (scope_over (scope_of p number f) V) (StandsAs p.constants f V own) (InsideExit own) fresh fresh (emit_stmts k own outside_loops f.body fresh).fresh
      (zeros_first own f) (emit_stmts k own outside_loops f.body fresh).code
      (zeros_emitted (scope_over (scope_of p number f) V) (StandsAs p.constants f V own) (InsideExit own) p.constants f.variables own.first (λ r. r.0) (variables_used_undeclared f) (λ v among. (used_undeclared_behind f v among).1) fresh)
      (code_where (scope_over (scope_of p number f) V) (StandsAs p.constants f V own) (StandsAs p.constants f V own) (Inside own.exit false outside_loops) (InsideExit own) fresh (emit_stmts k own outside_loops f.body fresh).fresh
      (emit_stmts k own outside_loops f.body fresh).code (λ r. r) (λ names t. (t, tt))
      (stmts_emitted (scope_of p number f) V (StandsAs p.constants f V own) k own (λ r. r.0) (λ r. r.1) declared (expr_emitted (scope_of p number f) V (StandsAs p.constants f V own) k own (λ r. r.0) callees)
      false outside_loops f.body h.body fresh));
}
  where
    declared : AreDeclared p.structs f.variables
    declared = every_from_all (λ v. IsDeclared p.structs v.ty) f.variables h.variables

-- functions, each with what becomes of it
abbrev pub AreInlined : Scope → List Constant → List FunctionDef → List Inlined → Type 0
AreInlined S constants [] [] = Unit {0}
AreInlined S constants [] (g ∷ gs) = ⊥
AreInlined S constants (d ∷ ds) [] = ⊥
AreInlined S constants (d ∷ ds) (g ∷ gs) = IsInlined S constants d g × AreInlined S constants ds gs

pub inlined_get : (S : Scope) (constants : List Constant) (ds : List FunctionDef) (gs : List Inlined) → AreInlined S constants ds gs → (function : ℕ) (d : FunctionDef) → slice_get ds function ≡ Some d →
    IsInlined S constants d (inlined_at gs function)
inlined_get S constants [] gs h function d e = absurd (none-some d e)
inlined_get S constants (x ∷ ds) [] h function d e = absurd h
inlined_get S constants (x ∷ ds) (g ∷ gs) h zero d e = subst (λ y. IsInlined S constants y g) (same_Some x d e) h.0
inlined_get S constants (x ∷ ds) (g ∷ gs) h (suc function) d e = inlined_get S constants ds gs h.1 function d e

inlined_push : (S : Scope) (constants : List Constant) (ds : List FunctionDef) (gs : List Inlined) (d : FunctionDef) (g : Inlined) → AreInlined S constants ds gs → IsInlined S constants d g →
    AreInlined S constants (ds ++ d ∷ []) (gs ++ g ∷ [])
inlined_push S constants [] [] d g h x = (x, tt)
inlined_push S constants [] (y ∷ gs) d g h x = absurd h
inlined_push S constants (y ∷ ds) [] d g h x = absurd h
inlined_push S constants (y ∷ ds) (z ∷ gs) d g h x = (h.0, inlined_push S constants ds gs d g h.1 x)

-- what can be named in the program without calls
abbrev pub program_over : Program → List Variable → Scope
program_over p V = record {
  structs = p.structs;
  resources = p.resources;
  shared = p.shared;
  constants = [];
  functions = [];
  variables = V;
  result = void_type;
}

-- the functions behind some of them
inlined_behind : (p : Program) (V : List Variable) → IsWellFormed p → (done rest : List FunctionDef) (before : List Inlined) → p.functions ≡ done ++ rest → AreInlined (program_over p V) p.constants done before →
    AreInlined (program_over p V) p.constants p.functions (inlined_after before rest)
inlined_behind p V wf done [] before whole h = subst (λ ds. AreInlined (program_over p V) p.constants ds before) (sym (whole ∙ append-nil done)) h
inlined_behind p V wf done (f ∷ rest) before whole h =
    inlined_behind p V wf (done ++ f ∷ []) rest (before ++ inlined before f ∷ []) (whole ∙ sym (append_assoc done (f ∷ []) rest))
    (inlined_push (program_over p V) p.constants done before f (inlined before f) h (function_inlined p V (length done) f before (wf.functions (length done) f here) callees))
  where
    here : slice_get p.functions (length done) ≡ Some f
    here = ap (λ l. slice_get l (length done)) whole ∙ get-next done f rest

    earlier : take (length done) p.functions ≡ done
    earlier = ap (take (length done)) whole ∙ take-append_seam done (f ∷ rest)

    callees : Callees (scope_of p (length done) f) V before
    callees function d e = inlined_get (program_over p V) p.constants done before h function d (ap (λ l. slice_get l function) (sym earlier) ∙ e)

-- what becomes of the functions of a program
pub functions_inlined : (p : Program) (V : List Variable) → IsWellFormed p → AreInlined (program_over p V) p.constants p.functions (inlined_after [] p.functions)
functions_inlined p V wf = inlined_behind p V wf [] p.functions [] refl tt

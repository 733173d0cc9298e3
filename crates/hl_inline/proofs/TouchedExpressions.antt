-- What becomes of each expression of a function indexes what the expression does.
use Rattle.std.proofs.Common.{◌≡◌, refl, sym, subst, ℕ, ◌<◌, ◌≤◌, false, List, [], ◌∷◌, map, length, Option, None, Some, slice_get}
use Rattle.std.specs.Prelude.{option_map, option_and_then}
use Rattle.std.proofs.lemmas.Option.{none-some}
use Rattle.hl_meaning.specs.declared.program.Copying.{Copying}
use Rattle.hl_meaning.specs.declared.program.Copying.TheVariants.{CopyBoth, CopyIn, CopyOut}
use Rattle.hl_meaning.specs.declared.program.Parameter.{Parameter}
use Rattle.lane_core.specs.declared.event.AtomicKind.{AtomicKind}
use Rattle.lane_core.specs.declared.event.AtomicKind.TheVariants.{Add, And, Or, Xor, IMin, IMax, UMin, UMax, Exchange}
use Rattle.hl_meaning.specs.Types.{Ty}
use Rattle.hl_meaning.specs.Trees.{Arg, Args, Expr, Form, Location, PathParts, Root, Target, a_location, an_expr, atomic_form, binary_form, build_form, bytes_target, call_form, choose_form, constant_root, convert_form, element_root, intrinsic_form, literal_form, method_form, more_args, no_args, no_location, pick_form, place_arg, place_target, read_form, shared_root, some_location, unary_form, value_arg, variable_root, write_form}
use Rattle.hl_meaning.specs.Programs.{FunctionDef, Variable}
use Rattle.hl_meaning.specs.Places.{Scope, path_type, root_type, variable_type}
use Rattle.hl_meaning.specs.WellFormed.{ArePassed, IsExpr, IsForm, IsOriginal, IsPassed, IsPlace, callee_params, callee_result, param_of}
use Rattle.hl_inline.specs.IndexedVariables.{CallTree, call_tree_of}
use Rattle.hl_inline.specs.Occurrences.{call_occurrence}
use Rattle.typed_laws.proofs.OperandExpressions.{arg_exprs, args_exprs, operand_exprs}
use Rattle.typed_laws.specs.Operands.{place_exprs}
use Rattle.hl_inline.specs.EmittedExpressions.{emitter}
use Rattle.hl_inline.specs.Fresh.{Instance}
use Rattle.hl_inline.specs.InlinedCalls.{Inlined, call, inlined_at}
use Rattle.typed_laws.proofs.Induction.{Every, Step, by_operands, every_back, every_front}
use Rattle.hl_inline.proofs.OperandLemmas.{args_by, args_emitters_all, form_emitter_all}
use Rattle.typed_laws.proofs.OperandValues.{is_call_form}
use Rattle.hl_inline.proofs.Reading.{there_by_map}
use Rattle.typed_laws.proofs.Typed.{IsValue, ParamsSome, form_values, place_values}
use Rattle.hl_inline.proofs.TouchedForms.{FormFits, PicksLiterally, PlaceFits, RootFits}
use Rattle.hl_inline.proofs.TouchedNodes.{EmitsOccurrences, node_as}
use Rattle.hl_inline.proofs.TouchedCalls.{ArgsOccurrences, ArgOccurrences, CalleeAs, call_as}

-- ---- places that are there

root_fits : (s : Scope) (root : Root) (parts : PathParts) (ty : Ty) → option_and_then (λ t. path_type s.structs t parts) (root_type s root) ≡ Some ty → RootFits (length s.variables) (length s.constants) root
root_fits s (variable_root number) parts ty h = by_type (variable_type s.variables number) refl h
  where
    by_type : (o : Option Ty) → variable_type s.variables number ≡ o → option_and_then (λ t. path_type s.structs t parts) o ≡ Some ty → number < length s.variables
    by_type None is h = absurd (none-some ty h)
    by_type (Some t) is h = there_by_map (λ v. v.ty) s.variables number t is
root_fits s (constant_root number) parts ty h = by_type (root_type s (constant_root number)) refl h
  where
    by_type : (o : Option Ty) → root_type s (constant_root number) ≡ o → option_and_then (λ t. path_type s.structs t parts) o ≡ Some ty → number < length s.constants
    by_type None is h = absurd (none-some ty h)
    by_type (Some t) is h = there_by_map (λ c. c.variable.ty) s.constants number t is
root_fits s (shared_root number) parts ty h = tt
root_fits s (element_root resource index) parts ty h = tt

pub place_fits : (s : Scope) (place : Location) → IsPlace s place → PlaceFits (length s.variables) (length s.constants) place
place_fits s (a_location ty root parts) h = root_fits s root parts ty h.3

original_place : (s : Scope) (target : Target) (kind : Option AtomicKind) (original : Location) → IsOriginal s target kind (some_location original) → IsPlace s original
original_place s (place_target place) None original h = h.0
original_place s (place_target place) (Some Add) original h = h.0
original_place s (place_target place) (Some And) original h = h.0
original_place s (place_target place) (Some Or) original h = h.0
original_place s (place_target place) (Some Xor) original h = h.0
original_place s (place_target place) (Some IMin) original h = h.0
original_place s (place_target place) (Some IMax) original h = h.0
original_place s (place_target place) (Some UMin) original h = h.0
original_place s (place_target place) (Some UMax) original h = h.0
original_place s (place_target place) (Some Exchange) original h = h.0
original_place s (bytes_target resource address) None original h = h.0
original_place s (bytes_target resource address) (Some Add) original h = h.0
original_place s (bytes_target resource address) (Some And) original h = h.0
original_place s (bytes_target resource address) (Some Or) original h = h.0
original_place s (bytes_target resource address) (Some Xor) original h = h.0
original_place s (bytes_target resource address) (Some IMin) original h = h.0
original_place s (bytes_target resource address) (Some IMax) original h = h.0
original_place s (bytes_target resource address) (Some UMin) original h = h.0
original_place s (bytes_target resource address) (Some UMax) original h = h.0
original_place s (bytes_target resource address) (Some Exchange) original h = h.0

form_fits : (s : Scope) (ty : Ty) (form : Form) → IsForm s ty form → FormFits (length s.variables) (length s.constants) form
form_fits s ty (literal_form word) h = tt
form_fits s ty (read_form place) h = place_fits s place h.0
form_fits s ty (write_form to op common value old) h = place_fits s to h.0
form_fits s ty (convert_form value) h = tt
form_fits s ty (unary_form op value) h = tt
form_fits s ty (binary_form op left right) h = tt
form_fits s ty (choose_form cond consequent alternative) h = tt
form_fits s ty (build_form parts) h = tt
form_fits s ty (pick_form value parts) h = tt
form_fits s ty (call_form function args) h = tt
form_fits s ty (intrinsic_form number args) h = tt
form_fits s ty (method_form resource count address value) h = tt
form_fits s ty (atomic_form (bytes_target resource address) kind compare value no_location) h = (tt, tt)
form_fits s ty (atomic_form (bytes_target resource address) kind compare value (some_location original)) h = (tt, place_fits s original (original_place s (bytes_target resource address) kind original h.5))
form_fits s ty (atomic_form (place_target place) kind compare value no_location) h = (place_fits s place h.1.0, tt)
form_fits s ty (atomic_form (place_target place) kind compare value (some_location original)) h =
    (place_fits s place h.1.0, place_fits s original (original_place s (place_target place) kind original h.5))

form_picks : (s : Scope) (ty : Ty) (form : Form) → IsForm s ty form → PicksLiterally form
form_picks s ty (literal_form word) h = tt
form_picks s ty (read_form place) h = tt
form_picks s ty (write_form to op common value old) h = tt
form_picks s ty (convert_form value) h = tt
form_picks s ty (unary_form op value) h = tt
form_picks s ty (binary_form op left right) h = tt
form_picks s ty (choose_form cond consequent alternative) h = tt
form_picks s ty (build_form parts) h = tt
form_picks s ty (pick_form value parts) h = h.2
form_picks s ty (call_form function args) h = tt
form_picks s ty (intrinsic_form number args) h = tt
form_picks s ty (method_form resource count address value) h = tt
form_picks s ty (atomic_form target kind compare value original) h = tt

-- a function that may be called, with what becomes of it and what it reaches
pub record CalleeThere (s : Scope) (before : List CallTree) (function : ℕ) (d : FunctionDef) (g : Inlined) : Type 0 where
  pub as_reached : CalleeAs s.structs (length s.constants) (call_tree_of before (call_occurrence function)) g
  pub parameters : g.parameters ≡ d.parameters

module _ (s : Scope) (before : List CallTree) (first : ℕ) (high : length s.constants ≤ first) (k : List Inlined) (i : Instance) (is : i.first ≡ first)
    (callees : (function : ℕ) (d : FunctionDef) → slice_get s.functions function ≡ Some d → CalleeThere s before function d (inlined_at k function)) (some_params : (function : ℕ) → ParamsSome (callee_params (slice_get s.functions function))) where
  -- what is shown of each expression
  abbrev pub Indexing : Expr → Type 0
  Indexing e = IsExpr s e → EmitsOccurrences s.structs before (length s.constants) first (length s.variables) e (emitter k i e)

  indexing_all : (es : List Expr) → Every Indexing es → Every (IsValue s) es → Every (λ e. EmitsOccurrences s.structs before (length s.constants) first (length s.variables) e (emitter k i e)) es
  indexing_all [] indexing values = tt
  indexing_all (e ∷ es) indexing values = (indexing.0 values.0.0, indexing_all es indexing.1 values.1)

  plain_step : (ty : Ty) (at : ℕ) (form : Form) → is_call_form form ≡ false → Every Indexing (operand_exprs form) → Indexing (an_expr ty at form)
  plain_step ty at form plain indexing h =
      subst (EmitsOccurrences s.structs before (length s.constants) first (length s.variables) (an_expr ty at form)) (sym (form_emitter_all k i ty at form plain))
      (node_as s.structs before (length s.constants) first (length s.variables) high i is ty at form (emitter k i) plain (form_picks s ty form h.1) (form_fits s ty form h.1)
      (indexing_all (operand_exprs form) indexing (form_values s some_params ty form h.1)))

  arg_occurrences_are : (ty : Ty) (copying : Copying) (arg : Arg) → IsPassed s ty copying arg → Every Indexing (arg_exprs arg) → ArgOccurrences s.structs before (length s.constants) first (length s.variables) high (emitter k i) arg
  arg_occurrences_are ty CopyIn (value_arg value) h indexing = indexing.0 h.0
  arg_occurrences_are ty CopyIn (place_arg place) h indexing = absurd h
  arg_occurrences_are ty CopyOut (value_arg value) h indexing = absurd h
  arg_occurrences_are ty CopyOut (place_arg place) h indexing = (place_fits s place h.0, indexing_all (place_exprs place) indexing (place_values s place h.0))
  arg_occurrences_are ty CopyBoth (value_arg value) h indexing = absurd h
  arg_occurrences_are ty CopyBoth (place_arg place) h indexing = (place_fits s place h.0, indexing_all (place_exprs place) indexing (place_values s place h.0))

  args_occurrences_from : (variables : List Variable) (parameters : List Parameter) (args : Args) → ArePassed s (map (param_of variables) parameters) args → Every Indexing (args_exprs args) →
      ArgsOccurrences s.structs before (length s.constants) first (length s.variables) high (emitter k i) args parameters
  args_occurrences_from variables parameters no_args h indexing = tt
  args_occurrences_from variables [] (more_args arg rest) h indexing = absurd h
  args_occurrences_from variables (p ∷ parameters) (more_args arg rest) h indexing =
      by_type (λ h. args_occurrences_from variables parameters rest h (every_back Indexing (arg_exprs arg) (args_exprs rest) indexing)) (variable_type variables p.variable) h
    where
      by_type : (ArePassed s (map (param_of variables) parameters) rest → ArgsOccurrences s.structs before (length s.constants) first (length s.variables) high (emitter k i) rest parameters) →
          (o : Option Ty) → ArePassed s (option_map (λ ty. record { ty = ty; copying = p.copying }) o ∷ map (param_of variables) parameters) (more_args arg rest) →
          ArgsOccurrences s.structs before (length s.constants) first (length s.variables) high (emitter k i) (more_args arg rest) (p ∷ parameters)
      by_type next None h = absurd h
      by_type next (Some ty) h = (arg_occurrences_are ty p.copying arg h.0 (every_front Indexing (arg_exprs arg) (args_exprs rest) indexing), next h.1)

  call_step : (ty : Ty) (at function : ℕ) (args : Args) → Every Indexing (args_exprs args) → Indexing (an_expr ty at (call_form function args))
  call_step ty at function args indexing h =
      subst (λ l. EmitsOccurrences s.structs before (length s.constants) first (length s.variables) (an_expr ty at (call_form function args)) (call i ty at (inlined_at k function) l)) (sym (args_emitters_all k i args))
      (by_function (slice_get s.functions function) refl h.1.0 h.1.1)
    where
      by_function : (o : Option FunctionDef) → slice_get s.functions function ≡ o → callee_result o ≡ Some ty → ArePassed s (callee_params o) args →
          EmitsOccurrences s.structs before (length s.constants) first (length s.variables) (an_expr ty at (call_form function args)) (call i ty at (inlined_at k function) (args_by (emitter k i) args))
      by_function None there result passed = absurd (none-some ty result)
      by_function (Some d) there result passed =
          call_as s.structs before (length s.constants) first (length s.variables) high i is (emitter k i) ty at function args (inlined_at k function) callee.as_reached
          (subst (ArgsOccurrences s.structs before (length s.constants) first (length s.variables) high (emitter k i) args) (sym callee.parameters) (args_occurrences_from d.variables d.parameters args passed indexing))
        where
          callee : CalleeThere s before function d (inlined_at k function)
          callee = callees function d there

  indexing_step : Step Indexing
  indexing_step ty at (literal_form word) indexing = plain_step ty at (literal_form word) refl indexing
  indexing_step ty at (read_form place) indexing = plain_step ty at (read_form place) refl indexing
  indexing_step ty at (write_form to op common value old) indexing = plain_step ty at (write_form to op common value old) refl indexing
  indexing_step ty at (convert_form value) indexing = plain_step ty at (convert_form value) refl indexing
  indexing_step ty at (unary_form op value) indexing = plain_step ty at (unary_form op value) refl indexing
  indexing_step ty at (binary_form op left right) indexing = plain_step ty at (binary_form op left right) refl indexing
  indexing_step ty at (choose_form cond consequent alternative) indexing = plain_step ty at (choose_form cond consequent alternative) refl indexing
  indexing_step ty at (build_form parts) indexing = plain_step ty at (build_form parts) refl indexing
  indexing_step ty at (pick_form value parts) indexing = plain_step ty at (pick_form value parts) refl indexing
  indexing_step ty at (call_form function args) indexing = call_step ty at function args indexing
  indexing_step ty at (intrinsic_form number args) indexing = plain_step ty at (intrinsic_form number args) refl indexing
  indexing_step ty at (method_form resource count address value) indexing = plain_step ty at (method_form resource count address value) refl indexing
  indexing_step ty at (atomic_form target kind compare value original) indexing = plain_step ty at (atomic_form target kind compare value original) refl indexing

  pub indexing : (e : Expr) → Indexing e
  indexing e = by_operands Indexing indexing_step e

-- What becomes of a call is well formed.
use Rattle.std.proofs.Common.{◌≡◌, ◌∙◌, refl, sym, ap, subst, ℕ, suc, ◌+◌, ◌⊎◌, inl, inr, Bool, true, false, List, [], ◌∷◌, ◌++◌, map, Option, None, Some, arith}
use Rattle.std.specs.Prelude.{if◌then◌else◌, IsTrue, option_map}
use Rattle.std.proofs.lemmas.Bool.{true≢false}
use Rattle.hl_meaning.specs.declared.program.Copying.{Copying}
use Rattle.hl_meaning.specs.declared.program.Copying.TheVariants.{CopyBoth, CopyIn, CopyOut}
use Rattle.hl_meaning.specs.declared.program.Parameter.{Parameter}
use Rattle.hl_meaning.specs.Types.{Ty, is_void}
use Rattle.hl_meaning.specs.Trees.{Arg, Args, Expr, Location, a_location, an_expr, call_form, more_args, no_args, place_arg, place_type, read_form, type_of, value_arg}
use Rattle.hl_meaning.specs.Programs.{Constant, FunctionDef, Variable}
use Rattle.hl_meaning.specs.Places.{Scope, is_writable_place, variable_type}
use Rattle.hl_meaning.specs.WellFormed.{AreNumberedFrom, ArePassed, IsDeclared, IsExpr, IsLocal, IsPassed, IsPlace, IsResult, Param, param_of}
use Rattle.hl_inline.specs.FlatTrees.{flat_block, flat_local, flat_named}
use Rattle.hl_inline.specs.FlatViews.{flat_stmts_of}
use Rattle.hl_meaning.specs.Operators.{is_among}
use Rattle.typed_laws.proofs.OperandExpressions.{args_exprs}
use Rattle.hl_inline.specs.Operands.{filled_place}
use Rattle.typed_laws.specs.Operands.{place_exprs}
use Rattle.hl_inline.specs.EmittedCode.{EmittedCode}
use Rattle.hl_inline.specs.EmittedStatements.{is_call}
use Rattle.hl_inline.specs.Emitting.{Emitter, Valued, Values, emit_all, reading}
use Rattle.hl_inline.specs.Fresh.{Fresh, Instance, nameless, next_of, unnamed}
use Rattle.hl_inline.specs.InlinedCalls.{Inlined, Passed, call, copy_back, instance_of, nothing_passed, pass_all, passed_with, result_variables, start_value, with_body, with_instance}
use Rattle.typed_laws.proofs.Induction.{Every, every_append, every_back, every_front}
use Rattle.hl_inline.proofs.OperandLemmas.{args_by}
use Rattle.typed_laws.proofs.Typed.{IsSome, IsValue, place_values}
use Rattle.hl_inline.proofs.Fronts.{IsFront, front_more, front_trans, instance_type, nameless_every, nameless_type, result_type_at, type_there}
use Rattle.hl_inline.proofs.FlatCode.{AreBelow, AreDeclared, AreFitting, Extends, IsCode, IsFitting, below_more, block_fits, code_append, extends_refl, extends_trans, free_name, named_here, no_code, one_code}
use Rattle.hl_inline.proofs.FlatForms.{StandsFrom, all_first, place_filled, scope_over, writable_filled}
use Rattle.hl_inline.proofs.FlatExprs.{Anywhere, AreGiven, IsEmitted, IsGiven, all_given, declared_some, reading_well, result_declared}
use Rattle.hl_inline.proofs.FilledLemmas.{place_type_filled}

-- how arguments are passed

value_passed : (s : Scope) (ty : Ty) (copying : Copying) (value : Expr) → IsPassed s ty copying (value_arg value) → IsExpr s value × (type_of value ≡ ty)
value_passed s ty CopyIn value h = h
value_passed s ty CopyOut value h = absurd h
value_passed s ty CopyBoth value h = absurd h

place_passed : (s : Scope) (ty : Ty) (copying : Copying) (place : Location) → IsPassed s ty copying (place_arg place) → IsPlace s place × IsTrue (is_writable_place s place) × (place_type place ≡ ty)
place_passed s ty CopyIn place h = absurd h
place_passed s ty CopyOut place h = h
place_passed s ty CopyBoth place h = h

-- the type of a parameter whose argument is there, and how it is passed
first_passed : (s : Scope) (variables : List Variable) (p : Parameter) (params : List (Option Param)) (arg : Arg) (args : Args) → ArePassed s (param_of variables p ∷ params) (more_args arg args) →
    (ty : Ty) × (variable_type variables p.variable ≡ Some ty) × IsPassed s ty p.copying arg × ArePassed s params args
first_passed s variables p params arg args h = by_type (variable_type variables p.variable) refl h
  where
    by_type : (o : Option Ty) → variable_type variables p.variable ≡ o → ArePassed s (option_map (λ ty. record { ty = ty; copying = p.copying }) o ∷ params) (more_args arg args) →
        (ty : Ty) × (variable_type variables p.variable ≡ Some ty) × IsPassed s ty p.copying arg × ArePassed s params args
    by_type None e h = absurd h
    by_type (Some ty) e h = (ty, e, h.0, h.1)

none_passed : (s : Scope) (params : List (Option Param)) (o : Option Param) → ArePassed s (o ∷ params) no_args → ⊥
none_passed s params None h = h
none_passed s params (Some param) h = h

-- parameters have the same types without their names
nameless_params : (variables : List Variable) (parameters : List Parameter) → map (param_of (map nameless variables)) parameters ≡ map (param_of variables) parameters
nameless_params variables [] = refl
nameless_params variables (p ∷ parameters) =
    ap (λ o. option_map (λ ty. record { ty = ty; copying = p.copying }) o ∷ map (param_of (map nameless variables)) parameters) (nameless_type variables p.variable) ∙
    ap (λ l. param_of variables p ∷ l) (nameless_params variables parameters)

-- the instance of a function in place, where S has all variables
abbrev pub StandsAs : (constants : List Constant) → FunctionDef → List Variable → Instance → Type 0
StandsAs constants d V own = StandsFrom constants d.variables V own.first × (IsSome d.result → variable_type V own.result ≡ Some d.result)

-- what is left inside a function is its exit
abbrev pub InsideExit : Instance → List ℕ → Type 0
InsideExit own names = IsTrue (is_among names own.exit)

-- what becomes of a function
pub record IsInlined (S : Scope) (constants : List Constant) (d : FunctionDef) (g : Inlined) : Type 0 where
  pub parameters : g.parameters ≡ d.parameters
  pub variables : g.variables ≡ map nameless d.variables
  pub own_declared : AreDeclared S.structs d.variables
  pub numbered : AreNumberedFrom 0 d.parameters
  pub body : (own : Instance) (fresh : Fresh) → IsCode S (StandsAs constants d S.variables own) (InsideExit own) fresh (g.body own fresh).fresh (g.body own fresh).code

-- what is passed, and what is written back
pub record IsPassedIn (S : Scope) (R : Type 0) (fresh : Fresh) (x : Passed) : Type 0 where
  pub code : IsCode S R Anywhere fresh x.fresh x.code
  pub copies : R → IsFront x.fresh.variables S.variables → (names : List ℕ) → AreFitting S names x.copies

-- the variables of a function are among all, from a number on
abbrev pub OwnTyped : (V own : List Variable) (base : ℕ) → Fresh → Type 0
OwnTyped V own base fresh = (v : ℕ) (ty : Ty) → variable_type own v ≡ Some ty → IsFront fresh.variables V → variable_type V (base + v) ≡ Some ty

place_declared : (S : Scope) (place : Location) → IsPlace S place → IsDeclared S.structs (place_type place)
place_declared S (a_location ty root parts) h = h.0

-- what the variable of a parameter starts with whose argument is a place
start_well : (S : Scope) (copying : Copying) (to : Location) (at number : ℕ) → IsPlace S to → variable_type S.variables number ≡ Some (place_type to) → IsLocal S number (start_value copying to at)
start_well S copying to at number place typed = by_copying copying
  where
    read : IsExpr S (an_expr (place_type to) at (read_form to))
    read = (result_declared S.structs (place_type to) (place_declared S to place), (place, refl))

    by_copying : (copying : Copying) → IsLocal S number (start_value copying to at)
    by_copying CopyIn = (read, typed)
    by_copying CopyOut = type_there S.variables number (place_type to) typed
    by_copying CopyBoth = (read, typed)

copy_well : (S : Scope) (to : Location) (at number : ℕ) → IsPlace S to → IsTrue (is_writable_place S to) → variable_type S.variables number ≡ Some (place_type to) → (names : List ℕ) → IsFitting S names (copy_back to at number)
copy_well S to at number place writable typed names =
    ((result_declared S.structs (place_type to) declared, (place, writable, refl, reading_well S (place_type to) at number declared typed, (refl, refl, refl))), refl)
  where
    declared : IsDeclared S.structs (place_type to)
    declared = place_declared S to place

module _ (s : Scope) (V : List Variable) (R : Type 0) where
  nothing_in : (fresh : Fresh) → IsPassedIn (scope_over s V) R fresh (nothing_passed fresh)
  nothing_in fresh = record { code = no_code (scope_over s V) R Anywhere fresh; copies = λ r front names. tt }

  -- a value in the variable of a parameter
  value_in : (e : Expr) (number : ℕ) (fresh : Fresh) (x : Valued) (rest : Passed) → IsSome (type_of e) → IsGiven (scope_over s V) R e fresh x →
      (IsFront fresh.variables V → variable_type V number ≡ Some (type_of e)) → IsPassedIn (scope_over s V) R x.fresh rest →
      IsPassedIn (scope_over s V) R fresh (passed_with (x.code ++ flat_local number (Some x.value) ∷ []) [] rest)
  value_in e number fresh x rest some g typed p = record {
    code = code_append (scope_over s V) R Anywhere fresh x.fresh rest.fresh (x.code ++ flat_local number (Some x.value) ∷ []) rest.code
        (code_append (scope_over s V) R Anywhere fresh x.fresh x.fresh x.code (flat_local number (Some x.value) ∷ []) g.code
        (one_code (scope_over s V) R Anywhere x.fresh x.fresh (flat_local number (Some x.value)) (extends_refl s.structs x.fresh) set)) p.code;
    copies = p.copies;
  }
    where
      set : R → IsFront x.fresh.variables V → (names : List ℕ) → AreBelow x.fresh.names names → Unit {0} → IsFitting (scope_over s V) names (flat_local number (Some x.value))
      set r front names below t = (
        (
          g.well r front (inl some),
          subst (λ ty. variable_type V number ≡ Some ty) (sym g.same) (typed (front_trans fresh.variables x.fresh.variables V g.code.extends.grows front)),
        ),
        refl,
      )

  -- a place, whose value stands in the variable of a parameter and is written back
  place_in : (i : Instance) (place : Location) (copying : Copying) (at number : ℕ) (fresh : Fresh) (x : Values) (rest : Passed) → (R → StandsFrom s.constants s.variables V i.first) → IsPlace s place →
      IsTrue (is_writable_place s place) → AreGiven (scope_over s V) R (place_exprs place) fresh x → (IsFront fresh.variables V → variable_type V number ≡ Some (place_type place)) → IsPassedIn (scope_over s V) R x.fresh rest →
      IsPassedIn (scope_over s V) R fresh
      (passed_with (x.code ++ flat_local number (start_value copying (filled_place i.first place x.values) at) ∷ []) (copy_back (filled_place i.first place x.values) at number ∷ []) rest)
  place_in i place copying at number fresh x rest stands is_place writable g typed p = record {
    code = code_append (scope_over s V) R Anywhere fresh x.fresh rest.fresh (x.code ++ flat_local number (start_value copying (filled_place i.first place x.values) at) ∷ []) rest.code
        (code_append (scope_over s V) R Anywhere fresh x.fresh x.fresh x.code (flat_local number (start_value copying (filled_place i.first place x.values) at) ∷ []) g.code
        (one_code (scope_over s V) R Anywhere x.fresh x.fresh (flat_local number (start_value copying (filled_place i.first place x.values) at)) (extends_refl s.structs x.fresh)
        (λ r front names below t. (start_well (scope_over s V) copying (filled_place i.first place x.values) at number (to_place r front) (to_typed front), refl)))) p.code;
    copies = λ r front names.
        let here : IsFront x.fresh.variables V = front_trans x.fresh.variables rest.fresh.variables V p.code.extends.grows front in
        (copy_well (scope_over s V) (filled_place i.first place x.values) at number (to_place r here) (writable_filled s V i.first (stands r) place x.values writable) (to_typed here) names, p.copies r front names);
  }
    where
      to_place : R → IsFront x.fresh.variables V → IsPlace (scope_over s V) (filled_place i.first place x.values)
      to_place r front = place_filled s V i.first (stands r) place x.values is_place (all_first (scope_over s V) (place_exprs place) x.values (g.values r front))

      to_typed : IsFront x.fresh.variables V → variable_type V number ≡ Some (place_type (filled_place i.first place x.values))
      to_typed front =
          subst (λ ty. variable_type V number ≡ Some ty) (sym (place_type_filled i.first place x.values)) (typed (front_trans fresh.variables x.fresh.variables V g.code.extends.grows front))

  -- the variable of a parameter among all
  own_typed : (own : List Variable) (base position number variable : ℕ) (ty other : Ty) (fresh : Fresh) → OwnTyped V own base fresh → number ≡ base + position → variable ≡ position → variable_type own variable ≡ Some ty →
      other ≡ ty → IsFront fresh.variables V → variable_type V number ≡ Some other
  own_typed own base position number variable ty other fresh typed at is e same front =
      ap (variable_type V) (at ∙ ap (λ v. base + v) (sym is)) ∙ (typed variable ty e front ∙ ap Some (sym same))

  later_typed : (own : List Variable) (base : ℕ) (fresh after : Fresh) → IsFront fresh.variables after.variables → OwnTyped V own base fresh → OwnTyped V own base after
  later_typed own base fresh after grows typed v ty e front = typed v ty e (front_trans fresh.variables after.variables V grows front)

  -- arguments in order
  pub passing_in : (i : Instance) (em : Expr → Emitter) (own : List Variable) (base at : ℕ) → (R → StandsFrom s.constants s.variables V i.first) → (args : Args) (parameters : List Parameter) (position number : ℕ) →
      number ≡ base + position → AreNumberedFrom position parameters → ArePassed s (map (param_of own) parameters) args → Every (IsValue s) (args_exprs args) →
      Every (λ e. IsEmitted (scope_over s V) R e (em e)) (args_exprs args) → (fresh : Fresh) → OwnTyped V own base fresh →
      IsPassedIn (scope_over s V) R fresh (pass_all i at number (args_by em args) parameters fresh)
  passing_in i em own base at stands no_args [] position number here numbered passed values emitted fresh typed = nothing_in fresh
  passing_in i em own base at stands no_args (p ∷ parameters) position number here numbered passed values emitted fresh typed = nothing_in fresh
  passing_in i em own base at stands (more_args arg args) [] position number here numbered passed values emitted fresh typed = absurd passed
  passing_in i em own base at stands (more_args (value_arg value) args) (p ∷ parameters) position number here numbered passed values emitted fresh typed =
      value_in value number fresh ((em value).emit fresh) (pass_all i at (suc number) (args_by em args) parameters ((em value).emit fresh).fresh) values.0.1 (emitted.0 fresh)
      (own_typed own base position number p.variable f.0 (type_of value) fresh typed here numbered.0 f.1 (value_passed s f.0 p.copying value f.2).1)
      (passing_in i em own base at stands args parameters (suc position) (suc number) (omega (arith, here)) numbered.1 f.3 values.1 emitted.1 ((em value).emit fresh).fresh
      (later_typed own base fresh ((em value).emit fresh).fresh (emitted.0 fresh).code.extends.grows typed))
    where
      f : (ty : Ty) × (variable_type own p.variable ≡ Some ty) × IsPassed s ty p.copying (value_arg value) × ArePassed s (map (param_of own) parameters) args
      f = first_passed s own p (map (param_of own) parameters) (value_arg value) args passed
  passing_in i em own base at stands (more_args (place_arg place) args) (p ∷ parameters) position number here numbered passed values emitted fresh typed =
      place_in i place p.copying at number fresh x (pass_all i at (suc number) (args_by em args) parameters x.fresh) stands h.0 h.1 g
      (own_typed own base position number p.variable f.0 (place_type place) fresh typed here numbered.0 f.1 h.2)
      (passing_in i em own base at stands args parameters (suc position) (suc number) (omega (arith, here)) numbered.1 f.3 (every_back (IsValue s) (place_exprs place) (args_exprs args) values)
      (every_back (λ e. IsEmitted (scope_over s V) R e (em e)) (place_exprs place) (args_exprs args) emitted) x.fresh (later_typed own base fresh x.fresh g.code.extends.grows typed))
    where
      f : (ty : Ty) × (variable_type own p.variable ≡ Some ty) × IsPassed s ty p.copying (place_arg place) × ArePassed s (map (param_of own) parameters) args
      f = first_passed s own p (map (param_of own) parameters) (place_arg place) args passed

      h : IsPlace s place × IsTrue (is_writable_place s place) × (place_type place ≡ f.0)
      h = place_passed s f.0 p.copying place f.2

      x : Values
      x = emit_all true (map em (place_exprs place)) fresh

      g : AreGiven (scope_over s V) R (place_exprs place) fresh (emit_all true (map em (place_exprs place)) fresh)
      g = all_given (scope_over s V) R true s em (place_exprs place) refl (every_front (λ e. IsEmitted (scope_over s V) R e (em e)) (place_exprs place) (args_exprs args) emitted) (place_values s place h.0) fresh

  -- a function in place, behind its arguments
  body_given : (i : Instance) (ty : Ty) (at function : ℕ) (args : Args) (d : FunctionDef) (g : Inlined) (fresh : Fresh) (passed : Passed) → (R → StandsFrom s.constants s.variables V i.first) →
      IsInlined (scope_over s V) s.constants d g → d.result ≡ ty → IsResult s.structs ty → IsPassedIn (scope_over s V) R (with_instance g ty at fresh) passed →
      IsGiven (scope_over s V) R (an_expr ty at (call_form function args)) fresh (with_body ty at g (instance_of g fresh) passed)
  body_given i ty at function args d g fresh passed stands inlined is result p = record {
    code = record { extends = extends_trans s.structs fresh passed.fresh body.fresh to_passed b.extends; fits = fits };
    same = refl;
    index = λ size h. refl;
    well = well;
  }
    where
      own : Instance
      own = instance_of g fresh

      first : Fresh
      first = with_instance g ty at fresh

      body : EmittedCode
      body = g.body (instance_of g fresh) passed.fresh

      b : IsCode (scope_over s V) (StandsAs s.constants d V (instance_of g fresh)) (InsideExit (instance_of g fresh)) passed.fresh (g.body (instance_of g fresh) passed.fresh).fresh (g.body (instance_of g fresh) passed.fresh).code
      b = inlined.body (instance_of g fresh) passed.fresh

      result_declares : (b : Bool) → is_void ty ≡ b → AreDeclared s.structs (if b then [] else unnamed ty at ∷ [])
      result_declares true e = tt
      result_declares false e = (declared_some s.structs ty result e, tt)

      to_first : Extends s.structs fresh (with_instance g ty at fresh)
      to_first = record {
        grows = front_more fresh.variables (g.variables ++ result_variables ty at);
        names = omega arith;
        declared = λ all. every_append (λ v. IsDeclared s.structs v.ty) fresh.variables (g.variables ++ result_variables ty at) all
            (every_append (λ v. IsDeclared s.structs v.ty) g.variables (result_variables ty at) (subst (AreDeclared s.structs) (sym inlined.variables) (nameless_every (IsDeclared s.structs) d.variables inlined.own_declared)) (result_declares (is_void ty) refl));
      }

      to_passed : Extends s.structs fresh passed.fresh
      to_passed = extends_trans s.structs fresh (with_instance g ty at fresh) passed.fresh to_first p.code.extends

      first_front : IsFront body.fresh.variables V → IsFront (with_instance g ty at fresh).variables V
      first_front front =
          front_trans (with_instance g ty at fresh).variables passed.fresh.variables V p.code.extends.grows (front_trans passed.fresh.variables body.fresh.variables V b.extends.grows front)

      result_there : IsFront body.fresh.variables V → IsSome ty → variable_type V (instance_of g fresh).result ≡ Some ty
      result_there front some = result_type_at fresh.variables g.variables V ty at (first_front front) some

      stands_own : R → IsFront body.fresh.variables V → StandsAs s.constants d V (instance_of g fresh)
      stands_own r front = (
        record {
          own_type = λ v t e. instance_type fresh.variables g.variables (result_variables ty at) V v t (first_front front) (subst (λ vs. variable_type vs v ≡ Some t) (sym inlined.variables) (nameless_type d.variables v ∙ e));
          constant_type = (stands r).constant_type;
        },
        λ some. subst (λ t. variable_type V (instance_of g fresh).result ≡ Some t) (sym is) (result_there front (subst IsSome is some)),
      )

      named : R → IsFront body.fresh.variables V → (names : List ℕ) → AreBelow fresh.names names → IsFitting (scope_over s V) names (flat_named (instance_of g fresh).exit (flat_block (flat_stmts_of body.code)))
      named r front names below =
          let inside = block_fits (scope_over s V) (fresh.names ∷ names) body.code
          (b.fits (stands_own r front) front (fresh.names ∷ names) (omega (arith, p.code.extends.names), below_more fresh.names passed.fresh.names names to_passed.names below) (named_here fresh.names names)) in
          ((free_name fresh.names fresh.names names (omega arith) below, inside.0), inside.1)

      fits : R → IsFront body.fresh.variables V → (names : List ℕ) → AreBelow fresh.names names → Unit {0} →
          AreFitting (scope_over s V) names (passed.code ++ flat_named (instance_of g fresh).exit (flat_block (flat_stmts_of body.code)) ∷ passed.copies)
      fits r front names below t =
          let here : IsFront passed.fresh.variables V = front_trans passed.fresh.variables body.fresh.variables V b.extends.grows front in
          every_append (IsFitting (scope_over s V) names) passed.code (flat_named (instance_of g fresh).exit (flat_block (flat_stmts_of body.code)) ∷ passed.copies)
          (p.code.fits r here names (below_more fresh.names (suc fresh.names) names (omega arith) below) tt) (named r front names below, p.copies r here names)

      well : R → IsFront body.fresh.variables V → IsSome ty ⊎ (is_call (an_expr ty at (call_form function args)) ≡ false) → IsExpr (scope_over s V) (reading ty at (instance_of g fresh).result)
      well r front (inl some) = reading_well (scope_over s V) ty at (instance_of g fresh).result (declared_some s.structs ty result some) (result_there front some)
      well r front (inr e) = absurd (true≢false e)

  -- a call
  pub call_given : (i : Instance) (em : Expr → Emitter) (ty : Ty) (at function : ℕ) (args : Args) (d : FunctionDef) (g : Inlined) → (R → StandsFrom s.constants s.variables V i.first) →
      IsInlined (scope_over s V) s.constants d g → d.result ≡ ty → IsResult s.structs ty → ArePassed s (map (param_of d.variables) d.parameters) args → Every (IsValue s) (args_exprs args) →
      Every (λ e. IsEmitted (scope_over s V) R e (em e)) (args_exprs args) → IsEmitted (scope_over s V) R (an_expr ty at (call_form function args)) (call i ty at g (args_by em args))
  call_given i em ty at function args d g stands inlined is result passed values emitted fresh =
      body_given i ty at function args d g fresh (pass_all i at (next_of fresh) (args_by em args) g.parameters (with_instance g ty at fresh)) stands inlined is result
      (passing_in i em g.variables (next_of fresh) at stands args g.parameters 0 (next_of fresh) (omega arith) (subst (AreNumberedFrom 0) (sym inlined.parameters) inlined.numbered)
      (subst (λ ps. ArePassed s (map (param_of g.variables) ps) args) (sym inlined.parameters) (subst (λ vs. ArePassed s (map (param_of vs) d.parameters) args) (sym inlined.variables) (subst (λ ps. ArePassed s ps args) (sym (nameless_params d.variables d.parameters)) passed)))
      values emitted (with_instance g ty at fresh) (λ v t e front. instance_type fresh.variables g.variables (result_variables ty at) V v t front e))

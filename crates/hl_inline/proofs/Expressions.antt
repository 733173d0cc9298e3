-- What becomes of an expression does what the expression does.
use Rattle.std.proofs.Common.{◌≡◌, ◌∙◌, refl, sym, ap, subst, ℕ, suc, ◌≤◌, false, List, [], ◌∷◌, map, length, Option, None, Some, slice_get}
use Rattle.std.specs.Prelude.{option_map, slice_index_or}
use Rattle.std.specs.Option.{option_map_or}
use Rattle.std.proofs.lemmas.Option.{none-some, same_Some}
use Rattle.lane_core.specs.Lane.{Lane}
use Rattle.hl_meaning.specs.declared.program.Copying.{Copying}
use Rattle.hl_meaning.specs.declared.program.Copying.TheVariants.{CopyBoth, CopyIn, CopyOut}
use Rattle.hl_meaning.specs.declared.program.Parameter.{Parameter}
use Rattle.hl_meaning.specs.Types.{Ty, is_void}
use Rattle.hl_meaning.specs.Trees.{Arg, Args, Expr, Form, Location, an_expr, atomic_form, binary_form, build_form, call_form, choose_form, convert_form, intrinsic_form, literal_form, method_form, more_args, no_args, pick_form, place_arg, read_form, unary_form, value_arg, write_form}
use Rattle.hl_meaning.specs.Places.{Scope, variable_type}
use Rattle.hl_meaning.specs.Programs.{FunctionDef, Variable}
use Rattle.hl_meaning.specs.WellFormed.{AreNumberedFrom, ArePassed, IsExpr, IsForm, IsPassed, IsPlace, callee_params, callee_result, param_of}
use Rattle.hl_source.specs.State.{Context}
use Rattle.hl_source.specs.Expressions.{no_callee}
use Rattle.hl_inline.specs.FlatTrees.{Flat}
use Rattle.hl_inline.specs.FlatLane.{flat_context}
use Rattle.hl_inline.specs.Occurrences.{arg_occurrences, args_occurrences, call_occurrence, form_occurrences, location_occurrences}
use Rattle.typed_laws.proofs.OperandExpressions.{arg_exprs, args_exprs, operand_exprs}
use Rattle.typed_laws.specs.Operands.{place_exprs}
use Rattle.hl_inline.specs.EmittedExpressions.{emitter}
use Rattle.hl_inline.specs.Fresh.{Instance, nameless}
use Rattle.hl_inline.specs.InlinedCalls.{Inlined, call, inlined_at}
use Rattle.typed_laws.proofs.Induction.{Every, Step, by_operands, every_operand, every_back, every_front, every_map}
use Rattle.hl_inline.proofs.OperandLemmas.{form_emitter_all, args_emitters_all}
use Rattle.typed_laws.proofs.OperandValues.{is_call_form}
use Rattle.hl_inline.proofs.Relation.{Stands, flat_of_context}
use Rattle.hl_inline.proofs.Reading.{IsChangedPlace}
use Rattle.hl_inline.proofs.Fronts.{nameless_length, nameless_type}
use Rattle.hl_inline.proofs.Emission.{Emits}
use Rattle.typed_laws.proofs.Sound.{HasValue, HasPlaceValue}
use Rattle.hl_inline.proofs.Nodes.{node_emits}
use Rattle.hl_inline.proofs.Passing.{ArgReady, ArgsReady, ArgsTyped, arg_type}
use Rattle.hl_inline.proofs.Calls.{CallReady, Inlines, call_emits}
use Rattle.typed_laws.proofs.Typed.{IsSome, IsValue, ParamsSome, form_values, place_values}
use Rattle.hl_inline.proofs.Covered.{Covers, CoversExpr, OccurrenceIn, form_in, operands_covered, place_changed, place_covered, place_in}

-- a function that may be called, with what becomes of it
pub record CalleeIn (c : Context) (V : List Variable) (f : Flat) (lane : Lane) (n : ℕ) (function : ℕ) (d : FunctionDef) (g : Inlined) : Type 0 where
  pub inlines : Inlines c V f lane n (slice_index_or c.callees function no_callee) g
  pub parameters : g.parameters ≡ d.parameters
  pub variables : g.variables ≡ map nameless d.variables
  pub result : g.result ≡ d.result
  pub numbered : AreNumberedFrom 0 d.parameters
  pub fewer : length d.parameters ≤ length d.variables

-- the same without their names
nameless_typed : (variables : List Variable) (number : ℕ) (args : Args) → ArgsTyped variables number args → ArgsTyped (map nameless variables) number args
nameless_typed variables number no_args typed = tt
nameless_typed variables number (more_args arg rest) typed = (nameless_type variables number ∙ typed.0, nameless_typed variables (suc number) rest typed.1)

-- the variables of the parameters have the types of the arguments
typed_from : (s : Scope) (variables : List Variable) (number : ℕ) (parameters : List Parameter) (args : Args) → AreNumberedFrom number parameters → ArePassed s (map (param_of variables) parameters) args → ArgsTyped variables number args
typed_from s variables number [] no_args numbered h = tt
typed_from s variables number [] (more_args arg rest) numbered h = absurd h
typed_from s variables number (p ∷ parameters) args numbered h =
    by_type (λ rest h. typed_from s variables (suc number) parameters rest numbered.1 h) (variable_type variables p.variable) refl args h
  where
    passed_type : (ty : Ty) (copying : Copying) (arg : Arg) → IsPassed s ty copying arg → arg_type arg ≡ ty
    passed_type ty CopyIn (value_arg value) h = h.1
    passed_type ty CopyIn (place_arg place) h = absurd h
    passed_type ty CopyOut (value_arg value) h = absurd h
    passed_type ty CopyOut (place_arg place) h = h.2
    passed_type ty CopyBoth (value_arg value) h = absurd h
    passed_type ty CopyBoth (place_arg place) h = h.2

    by_type : ((rest : Args) → ArePassed s (map (param_of variables) parameters) rest → ArgsTyped variables (suc number) rest) → (o : Option Ty) → variable_type variables p.variable ≡ o →
        (args : Args) → ArePassed s (option_map (λ ty. record { ty = ty; copying = p.copying }) o ∷ map (param_of variables) parameters) args → ArgsTyped variables number args
    by_type next None is no_args h = tt
    by_type next None is (more_args arg rest) h = absurd h
    by_type next (Some ty) is no_args h = tt
    by_type next (Some ty) is (more_args arg rest) h =
        (subst (λ k. variable_type variables k ≡ Some (arg_type arg)) numbered.0 (is ∙ ap Some (sym (passed_type ty p.copying arg h.0))), next rest h.1)

module _ (c : Context) (V : List Variable) (first : ℕ) (stands : Stands c V first) (f : Flat) (lane : Lane) (n : ℕ) (known : flat_context f lane ≡ flat_of_context c V) (k : List Inlined) (i : Instance) (is : i.first ≡ first)
    (callees : (function : ℕ) (d : FunctionDef) → slice_get c.scope.functions function ≡ Some d → CalleeIn c V f lane n function d (inlined_at k function)) (some_params : (function : ℕ) → ParamsSome (callee_params (slice_get c.scope.functions function)))
    (sound : (e : Expr) → IsExpr c.scope e → HasValue c e) (place_sound : (place : Location) → IsPlace c.scope place → HasPlaceValue c place) (D : ℕ → Type 0) where
  -- what is shown of each expression
  abbrev pub Emitting : Expr → Type 0
  Emitting e = IsValue c.scope e → CoversExpr D e → Emits c V first stands f lane n known D e (emitter k i e)

  emitting_all : (es : List Expr) → Every Emitting es → Every (IsValue c.scope) es → Every (CoversExpr D) es → Every (λ e. Emits c V first stands f lane n known D e (emitter k i e)) es
  emitting_all [] emitting values covers = tt
  emitting_all (e ∷ es) emitting values covers = (emitting.0 values.0 covers.0, emitting_all es emitting.1 values.1 covers.1)

  values_all : (es : List Expr) → Every (IsValue c.scope) es → Every (HasValue c) es
  values_all es values = every_map (IsValue c.scope) (HasValue c) (λ e value. sound e value.0) es values

  plain_emits : (ty : Ty) (at : ℕ) (form : Form) → is_call_form form ≡ false → Every Emitting (operand_exprs form) → IsExpr c.scope (an_expr ty at form) → CoversExpr D (an_expr ty at form) →
      Emits c V first stands f lane n known D (an_expr ty at form) (emitter k i (an_expr ty at form))
  plain_emits ty at form plain emitting h covers =
      let values = form_values c.scope some_params ty form h.1 in
      subst (Emits c V first stands f lane n known D (an_expr ty at form)) (sym (form_emitter_all k i ty at form plain))
      (node_emits c V first stands f lane n known D i ty at form (emitter k i) is plain (form_in c D ty form h.1 covers)
      (emitting_all (operand_exprs form) emitting values (operands_covered D form covers)) (values_all (operand_exprs form) values))

  plain_step : (ty : Ty) (at : ℕ) (form : Form) → is_call_form form ≡ false → Every Emitting (operand_exprs form) → Emitting (an_expr ty at form)
  plain_step ty at form plain emitting value covers = plain_emits ty at form plain emitting value.0 covers

  place_ready : (place : Location) → IsPlace c.scope place → IsChangedPlace place → Every Emitting (place_exprs place) → Covers D (location_occurrences place) →
      ArgReady c V first stands f lane n known D (emitter k i) (place_arg place)
  place_ready place h changed emitting covers =
      let values = place_values c.scope place h in
      (place_in c D place h covers, changed, emitting_all (place_exprs place) emitting values (place_covered D place covers), values_all (place_exprs place) values, place_sound place h)

  arg_ready : (ty : Ty) (copying : Copying) (arg : Arg) → IsSome ty → IsPassed c.scope ty copying arg → Every Emitting (arg_exprs arg) → Covers D (arg_occurrences arg) →
      ArgReady c V first stands f lane n known D (emitter k i) arg
  arg_ready ty CopyIn (value_arg value) some h emitting covers = (emitting.0 (h.0, ap is_void h.1 ∙ some) covers, sound value h.0)
  arg_ready ty CopyIn (place_arg place) some h emitting covers = absurd h
  arg_ready ty CopyOut (value_arg value) some h emitting covers = absurd h
  arg_ready ty CopyOut (place_arg place) some h emitting covers = place_ready place h.0 (place_changed c.scope place h.1) emitting covers
  arg_ready ty CopyBoth (value_arg value) some h emitting covers = absurd h
  arg_ready ty CopyBoth (place_arg place) some h emitting covers = place_ready place h.0 (place_changed c.scope place h.1) emitting covers

  args_ready_from : (variables : List Variable) (parameters : List Parameter) (args : Args) → ParamsSome (map (param_of variables) parameters) → ArePassed c.scope (map (param_of variables) parameters) args →
      Every Emitting (args_exprs args) → Covers D (args_occurrences args) → ArgsReady c V first stands f lane n known D (emitter k i) args parameters
  args_ready_from variables [] no_args some h emitting covers = tt
  args_ready_from variables [] (more_args arg rest) some h emitting covers = absurd h
  args_ready_from variables (p ∷ parameters) no_args some h emitting covers = by_type (variable_type variables p.variable) h
    where
      by_type : (o : Option Ty) → ArePassed c.scope (option_map (λ ty. record { ty = ty; copying = p.copying }) o ∷ map (param_of variables) parameters) no_args → ⊥
      by_type None h = h
      by_type (Some ty) h = h
  args_ready_from variables (p ∷ parameters) (more_args arg rest) some h emitting covers =
      by_type (λ some h. args_ready_from variables parameters rest some h (every_back Emitting (arg_exprs arg) (args_exprs rest) emitting) (every_back (OccurrenceIn D) (arg_occurrences arg) (args_occurrences rest) covers))
      (variable_type variables p.variable) some h
    where
      by_type : (ParamsSome (map (param_of variables) parameters) → ArePassed c.scope (map (param_of variables) parameters) rest → ArgsReady c V first stands f lane n known D (emitter k i) rest parameters) →
          (o : Option Ty) → ParamsSome (option_map (λ ty. record { ty = ty; copying = p.copying }) o ∷ map (param_of variables) parameters) →
          ArePassed c.scope (option_map (λ ty. record { ty = ty; copying = p.copying }) o ∷ map (param_of variables) parameters) (more_args arg rest) →
          ArgsReady c V first stands f lane n known D (emitter k i) (more_args arg rest) (p ∷ parameters)
      by_type next None some h = absurd h
      by_type next (Some ty) some h =
          (arg_ready ty p.copying arg some.0 h.0 (every_front Emitting (arg_exprs arg) (args_exprs rest) emitting) (every_front (OccurrenceIn D) (arg_occurrences arg) (args_occurrences rest) covers), next some.1 h.1)

  -- a call of a function that is there, where its operands are emitted
  pub call_ready : (ty : Ty) (function : ℕ) (args : Args) → IsForm c.scope ty (call_form function args) → Every Emitting (args_exprs args) → Covers D (form_occurrences (call_form function args)) →
      CallReady c V first stands f lane n known D (emitter k i) function ty args (inlined_at k function)
  call_ready ty function args h emitting covers = by_function (slice_get c.scope.functions function) refl h.0 h.1 (some_params function)
    where
      by_function : (o : Option FunctionDef) → slice_get c.scope.functions function ≡ o → callee_result o ≡ Some ty → ArePassed c.scope (callee_params o) args → ParamsSome (callee_params o) →
          CallReady c V first stands f lane n known D (emitter k i) function ty args (inlined_at k function)
      by_function None is result passed some = absurd (none-some ty result)
      by_function (Some d) is result passed some = record {
        inlines = there.inlines;
        parameters = ap (λ o. option_map_or (λ x. x.parameters) o []) is ∙ sym there.parameters;
        result = there.result ∙ same_Some d.result ty result;
        fewer = subst (λ l. length l ≤ length (inlined_at k function).variables) (sym there.parameters) (subst (λ l. length d.parameters ≤ length l) (sym there.variables) (subst (λ m. length d.parameters ≤ m) (sym (nameless_length d.variables)) there.fewer));
        args_ready = subst (ArgsReady c V first stands f lane n known D (emitter k i) args) (sym there.parameters)
            (args_ready_from d.variables d.parameters args some passed emitting (every_front (OccurrenceIn D) (args_occurrences args) (call_occurrence function ∷ []) covers));
        args_typed = subst (λ l. ArgsTyped l 0 args) (sym there.variables) (nameless_typed d.variables 0 args (typed_from c.scope d.variables 0 d.parameters args there.numbered passed));
      }
        where
          there : CalleeIn c V f lane n function d (inlined_at k function)
          there = callees function d is

  call_step : (ty : Ty) (at function : ℕ) (args : Args) → Every Emitting (args_exprs args) → Emitting (an_expr ty at (call_form function args))
  call_step ty at function args emitting value covers =
      subst (λ l. Emits c V first stands f lane n known D (an_expr ty at (call_form function args)) (call i ty at (inlined_at k function) l)) (sym (args_emitters_all k i args))
      (call_emits c V first stands f lane n known D (emitter k i) i is ty at function args (inlined_at k function) (call_ready ty function args value.0.1 emitting covers)
      (sound (an_expr ty at (call_form function args)) value.0) value.1)

  emitting_step : Step Emitting
  emitting_step ty at (literal_form word) emitting = plain_step ty at (literal_form word) refl emitting
  emitting_step ty at (read_form place) emitting = plain_step ty at (read_form place) refl emitting
  emitting_step ty at (write_form to op common value old) emitting = plain_step ty at (write_form to op common value old) refl emitting
  emitting_step ty at (convert_form value) emitting = plain_step ty at (convert_form value) refl emitting
  emitting_step ty at (unary_form op value) emitting = plain_step ty at (unary_form op value) refl emitting
  emitting_step ty at (binary_form op left right) emitting = plain_step ty at (binary_form op left right) refl emitting
  emitting_step ty at (choose_form cond consequent alternative) emitting = plain_step ty at (choose_form cond consequent alternative) refl emitting
  emitting_step ty at (build_form parts) emitting = plain_step ty at (build_form parts) refl emitting
  emitting_step ty at (pick_form value parts) emitting = plain_step ty at (pick_form value parts) refl emitting
  emitting_step ty at (call_form function args) emitting = call_step ty at function args emitting
  emitting_step ty at (intrinsic_form number args) emitting = plain_step ty at (intrinsic_form number args) refl emitting
  emitting_step ty at (method_form resource count address value) emitting = plain_step ty at (method_form resource count address value) refl emitting
  emitting_step ty at (atomic_form target kind compare value original) emitting = plain_step ty at (atomic_form target kind compare value original) refl emitting

  -- what becomes of an expression that has a value does what the expression does
  pub emits : (e : Expr) → Emitting e
  emits e = by_operands Emitting emitting_step e

  pub operands_emitted : (form : Form) → Every Emitting (operand_exprs form)
  operands_emitted form = every_operand Emitting emitting_step form

  -- so does what becomes of one that isn't a call, whether it has a value or not
  pub emits_plain : (ty : Ty) (at : ℕ) (form : Form) → is_call_form form ≡ false → IsExpr c.scope (an_expr ty at form) → CoversExpr D (an_expr ty at form) →
      Emits c V first stands f lane n known D (an_expr ty at form) (emitter k i (an_expr ty at form))
  emits_plain ty at form plain h covers = plain_emits ty at form plain (operands_emitted form) h covers

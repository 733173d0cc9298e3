-- Well-formed expressions keep to words.
use Rattle.std.proofs.Common.{◌≡◌, ◌∙◌, ap, refl, sym, subst, Bool, true, false, length, ℕ, List, [], ◌∷◌, Option, None, Some}
use Rattle.std.specs.Prelude.{◌==◌, if◌then◌else◌, slice_get, slice_index_or}
use Rattle.lane_core.specs.declared.event.AtomicKind.{AtomicKind}
use Rattle.hl_meaning.specs.declared.program.Copying.{Copying}
use Rattle.hl_meaning.specs.declared.program.Parameter.{Parameter}
use Rattle.hl_meaning.specs.declared.ty.Kind.TheVariants.{Uint as UintKind}
use Rattle.hl_meaning.specs.Types.{Ty, components_type, scalar_type, vector_type}
use Rattle.hl_meaning.specs.Programs.{StructDef}
use Rattle.hl_meaning.specs.Layout.{words_of}
use Rattle.hl_meaning.proofs.LayoutLemmas.{words-scalar, words-vector}
use Rattle.std.proofs.lemmas.Bool.{eqb-true}
use Rattle.typed_laws.specs.Fitting.{Fits, Yields}
use Rattle.typed_laws.proofs.Fitting.{fits_length}
use Rattle.typed_laws.proofs.ValueFits.{yields_after, yields_any, yields_map}
use Rattle.hl_meaning.specs.Trees.{Arg, Args, Expr, Exprs, Form, Location, MaybeExpr, MaybeLocation, PathPart, PathParts, Root, Target, a_location, an_expr, atomic_form, binary_form, build_form, bytes_target, call_form, choose_form, constant_root, convert_form, element_root, index_part, intrinsic_form, literal_form, member_part, method_form, more_args, more_exprs, more_parts, no_args, no_expr, no_exprs, no_location, no_parts, pick_form, place_arg, place_target, read_form, shared_root, some_expr, some_location, swizzle_part, type_of, unary_form, value_arg, variable_root, write_form}
use Rattle.hl_meaning.specs.WellFormed.{AreExprs, AreParts, ArePassed, IsCompared, IsExpr, IsForm, IsMethod, IsOriginal, IsPart, IsPassed, IsPlace, IsRoot, IsTarget, Param, callee_params}
use Rattle.hl_source.specs.State.{Context, State, alone}
use Rattle.hl_source.specs.Expressions.{argument_of, argument_operands, arguments, evaluates, indexes, indexes_if, no_callee, operands, parameters_of, root_index, step_index, step_indexes, target_indexes, value_if, values, values_if}
use Rattle.event_laws.specs.Laws.{Is32Bits}
use Rattle.event_laws.proofs.Lists.{AllWords, AreWords}
use Rattle.event_laws.proofs.Keeping.{Any, Keeping, keeping_with, keeping_after, keeping_alone, keeping_first_then, keeping_goes, keeping_joined, keeping_then}
use Rattle.event_laws.proofs.Places.{HasConstants, HasSlots, Proper}
use Rattle.event_laws.proofs.Forms.{HasCount, KeepsCallee, keeping_acts, keeping_copies_in, original_place, place_passed, value_passed}

-- each value of an expression has the words of its type
abbrev pub IsTyped : Context → Type 0
IsTyped c = (e : Expr) → IsExpr c.scope e → (s : State) → Yields (Fits c.scope.structs (type_of e)) (evaluates c e s)

component_words : (structs : List StructDef) (count : ℕ) → words_of structs (components_type UintKind count) ≡ count
component_words structs count = by_test (count == 1) refl
  where
    by_test : (b : Bool) → (count == 1) ≡ b → words_of structs (if b then scalar_type UintKind else vector_type UintKind count) ≡ count
    by_test true is = words-scalar structs UintKind ∙ sym (eqb-true count 1 is)
    by_test false is = words-vector structs UintKind count

-- one operand of so many words
abbrev IsOne : ℕ → List (List ℕ) → Type 0
IsOne count operands = (words : List ℕ) × (operands ≡ words ∷ []) × (length words ≡ count)

module _ (c : Context) (constants : HasConstants c) (slots : HasSlots c) (callees : (number : ℕ) → KeepsCallee (Proper c) (slice_index_or c.callees number no_callee)) (typed : IsTyped c) where
  -- the operands of a method that stores
  counted : (ty : Ty) (form : Form) → IsForm c.scope ty form → (s : State) → Yields (HasCount form) (operands c form s)
  counted ty (literal_form word) h s = yields_any (HasCount (literal_form word)) (λ words. tt) (operands c (literal_form word) s)
  counted ty (read_form place) h s = yields_any (HasCount (read_form place)) (λ words. tt) (operands c (read_form place) s)
  counted ty (write_form to op common value old) h s = yields_any (HasCount (write_form to op common value old)) (λ words. tt) (operands c (write_form to op common value old) s)
  counted ty (convert_form value) h s = yields_any (HasCount (convert_form value)) (λ words. tt) (operands c (convert_form value) s)
  counted ty (unary_form op value) h s = yields_any (HasCount (unary_form op value)) (λ words. tt) (operands c (unary_form op value) s)
  counted ty (binary_form op left right) h s = yields_any (HasCount (binary_form op left right)) (λ words. tt) (operands c (binary_form op left right) s)
  counted ty (choose_form cond consequent alternative) h s = yields_any (HasCount (choose_form cond consequent alternative)) (λ words. tt) (operands c (choose_form cond consequent alternative) s)
  counted ty (build_form parts) h s = yields_any (HasCount (build_form parts)) (λ words. tt) (operands c (build_form parts) s)
  counted ty (pick_form value parts) h s = yields_any (HasCount (pick_form value parts)) (λ words. tt) (operands c (pick_form value parts) s)
  counted ty (call_form function args) h s = yields_any (HasCount (call_form function args)) (λ words. tt) (operands c (call_form function args) s)
  counted ty (intrinsic_form number args) h s = yields_any (HasCount (intrinsic_form number args)) (λ words. tt) (operands c (intrinsic_form number args) s)
  counted ty (method_form resource count address no_expr) h s = yields_any (HasCount (method_form resource count address no_expr)) (λ words. tt) (operands c (method_form resource count address no_expr) s)
  counted ty (atomic_form target kind compare value original) h s = yields_any (HasCount (atomic_form target kind compare value original)) (λ words. tt) (operands c (atomic_form target kind compare value original) s)
  counted ty (method_form resource count address (some_expr value)) h s =
      yields_after Any (HasCount (method_form resource count address (some_expr value))) (evaluates c address s) _ (yields_any Any (λ a. tt) (evaluates c address s)) (λ at s1 _.
      yields_after (IsOne count) (HasCount (method_form resource count address (some_expr value))) (alone (evaluates c value s1)) _
      (yields_after (λ words. length words ≡ count) (IsOne count) (evaluates c value s1) _
      (yields_map (Fits c.scope.structs (type_of value)) (λ words. length words ≡ count) (λ words fits. fits_length c.scope.structs (type_of value) words fits ∙ (ap (words_of c.scope.structs) h.5.3 ∙ component_words c.scope.structs count))
      (evaluates c value s1) (typed value h.5.2 s1)) (λ words s2 long. (words, refl, long)))
      (λ more s3 one. subst (λ m. HasCount (method_form resource count address (some_expr value)) (at ∷ m)) (sym one.1) one.2))

  mutual
    pub keeping_evaluates : (e : Expr) → IsExpr c.scope e → Keeping (Proper c) AreWords (evaluates c e)
    keeping_evaluates (an_expr ty at form) h = keeping_after (λ words. AllWords words × HasCount form words) AreWords _ _ (keeping_with AllWords (HasCount form) _ (keeping_operands ty form h.1) (counted ty form h.1)) (λ words k. keeping_acts c constants slots callees ty form words h.1 k.0 k.1)

    keeping_operands : (ty : Ty) (form : Form) → IsForm c.scope ty form → Keeping (Proper c) AllWords (operands c form)
    keeping_operands ty (literal_form word) h = keeping_goes AllWords [] tt
    keeping_operands ty (read_form place) h = keeping_alone AreWords _ (keeping_indexes place h.0)
    keeping_operands ty (write_form to op common value old) h = keeping_first_then AreWords _ _ (keeping_indexes to h.0) (keeping_alone AreWords _ (keeping_evaluates value h.3))
    keeping_operands ty (convert_form value) h = keeping_alone AreWords _ (keeping_evaluates value h.0)
    keeping_operands ty (unary_form op value) h = keeping_alone AreWords _ (keeping_evaluates value h.0)
    keeping_operands ty (binary_form op left right) h = keeping_first_then AreWords _ _ (keeping_evaluates left h.0) (keeping_alone AreWords _ (keeping_evaluates right h.1))
    keeping_operands ty (choose_form cond consequent alternative) h =
        keeping_first_then AreWords _ _ (keeping_evaluates cond h.0) (keeping_first_then AreWords _ _ (keeping_evaluates consequent h.1) (keeping_alone AreWords _ (keeping_evaluates alternative h.2)))
    keeping_operands ty (build_form parts) h = keeping_values parts h.0
    keeping_operands ty (pick_form value parts) h = keeping_alone AreWords _ (keeping_evaluates value h.0)
    keeping_operands ty (call_form function args) h = keeping_arguments args (callee_params (slice_get c.scope.functions function)) (parameters_of c function) h.1
    keeping_operands ty (intrinsic_form number args) h = keeping_values args h.0
    keeping_operands ty (method_form resource count address value) h = keeping_first_then AreWords _ _ (keeping_evaluates address h.3) (keeping_values_if resource _ ty value h.5)
    keeping_operands ty (atomic_form target kind compare value original) h =
        keeping_first_then AreWords _ _ (keeping_target (type_of value) target h.1)
        (keeping_first_then AreWords _ _ (keeping_compared (type_of value) kind compare h.4)
        (keeping_first_then AreWords _ _ (keeping_evaluates value h.2) (keeping_alone AreWords _ (keeping_original target kind original h.5))))

    keeping_indexes : (place : Location) → IsPlace c.scope place → Keeping (Proper c) AreWords (indexes c place)
    keeping_indexes (a_location ty root parts) h = keeping_joined Is32Bits _ _ (keeping_root root h.1) (keeping_steps parts h.2)

    keeping_root : (root : Root) → IsRoot c.scope root → Keeping (Proper c) AreWords (root_index c root)
    keeping_root (element_root resource index) h = keeping_evaluates index h.0
    keeping_root (variable_root number) h = keeping_goes AreWords [] tt
    keeping_root (constant_root number) h = keeping_goes AreWords [] tt
    keeping_root (shared_root number) h = keeping_goes AreWords [] tt

    keeping_steps : (parts : PathParts) → AreParts c.scope parts → Keeping (Proper c) AreWords (step_indexes c parts)
    keeping_steps no_parts h = keeping_goes AreWords [] tt
    keeping_steps (more_parts first rest) h = keeping_joined Is32Bits _ _ (keeping_step first h.0) (keeping_steps rest h.1)

    keeping_step : (part : PathPart) → IsPart c.scope part → Keeping (Proper c) AreWords (step_index c part)
    keeping_step (index_part index) h = keeping_evaluates index h.0
    keeping_step (member_part number) h = keeping_goes AreWords [] tt
    keeping_step (swizzle_part letters) h = keeping_goes AreWords [] tt

    keeping_target : (ty : Ty) (target : Target) → IsTarget c.scope ty target → Keeping (Proper c) AreWords (target_indexes c target)
    keeping_target ty (place_target place) h = keeping_indexes place h.0
    keeping_target ty (bytes_target resource address) h = keeping_evaluates address h.1

    keeping_values : (es : Exprs) → AreExprs c.scope es → Keeping (Proper c) AllWords (values c es)
    keeping_values no_exprs h = keeping_goes AllWords [] tt
    keeping_values (more_exprs first rest) h = keeping_first_then AreWords _ _ (keeping_evaluates first h.0) (keeping_values rest h.1)

    keeping_values_if : (resource : ℕ) (taken ty : Ty) (e : MaybeExpr) → IsMethod c.scope resource taken ty e → Keeping (Proper c) AllWords (values_if c e)
    keeping_values_if resource taken ty no_expr h = keeping_goes AllWords [] tt
    keeping_values_if resource taken ty (some_expr value) h = keeping_alone AreWords _ (keeping_evaluates value h.2)

    keeping_compared : (ty : Ty) (kind : Option AtomicKind) (e : MaybeExpr) → IsCompared c.scope ty kind e → Keeping (Proper c) AreWords (value_if c e)
    keeping_compared ty kind no_expr h = keeping_goes AreWords [] tt
    keeping_compared ty None (some_expr value) h = keeping_evaluates value h.0
    keeping_compared ty (Some kind) (some_expr value) h = absurd h

    keeping_original : (target : Target) (kind : Option AtomicKind) (place : MaybeLocation) → IsOriginal c.scope target kind place → Keeping (Proper c) AreWords (indexes_if c place)
    keeping_original target kind no_location h = keeping_goes AreWords [] tt
    keeping_original target kind (some_location place) h = keeping_indexes place (original_place c.scope target kind place h)

    keeping_arguments : (args : Args) (params : List (Option Param)) (parameters : List Parameter) → ArePassed c.scope params args → Keeping (Proper c) AllWords (arguments c args parameters)
    keeping_arguments no_args params parameters h = keeping_goes AllWords [] tt
    keeping_arguments (more_args first rest) params [] h = keeping_goes AllWords [] tt
    keeping_arguments (more_args first rest) [] (p ∷ parameters) h = absurd h
    keeping_arguments (more_args first rest) (None ∷ params) (p ∷ parameters) h = absurd h
    keeping_arguments (more_args first rest) (Some param ∷ params) (p ∷ parameters) h =
        keeping_joined AreWords _ _ (keeping_argument first param.ty param.copying p.copying h.0) (keeping_arguments rest params parameters h.1)

    keeping_argument : (arg : Arg) (ty : Ty) (copying passing : Copying) → IsPassed c.scope ty copying arg → Keeping (Proper c) AllWords (argument_of c arg passing)
    keeping_argument (value_arg value) ty copying passing h =
        keeping_then AreWords AllWords _ (argument_operands []) (keeping_evaluates value (value_passed c.scope ty copying value h)) (λ words k. (tt, (k, tt)))
    keeping_argument (place_arg place) ty copying passing h =
        keeping_after AreWords AllWords _ _ (keeping_indexes place (place_passed c.scope ty copying place h)) (λ index_words i.
        keeping_then AreWords AllWords _ (argument_operands index_words) (keeping_copies_in c constants slots passing place (place_passed c.scope ty copying place h) index_words i) (λ initial k. (i, (k, tt))))

-- Arguments are passed, and what is written back is, alike in a program and in one without calls.
use Rattle.std.proofs.Common.{◌≡◌, ◌∙◌, refl, sym, ap, subst, ℕ, suc, ◌+◌, ◌<◌, ◌≤◌, ◌⊎◌, inl, inr, true, false, List, [], ◌∷◌, ◌++◌, map, length, None, Some, arith}
use Rattle.std.specs.Prelude.{replicate}
use Rattle.std.proofs.lemmas.List.{length-map}
use Rattle.std.specs.List.{concat}
use Rattle.lane_core.specs.Lane.{Lane}
use Rattle.hl_meaning.specs.declared.program.Copying.{Copying}
use Rattle.hl_meaning.specs.declared.program.Copying.TheVariants.{CopyBoth, CopyIn, CopyOut}
use Rattle.hl_meaning.specs.declared.program.Parameter.{Parameter}
use Rattle.hl_meaning.specs.Types.{Ty}
use Rattle.hl_meaning.specs.Trees.{Arg, Args, Expr, Location, a_location, an_expr, more_args, no_args, place_arg, place_type, read_form, type_of, value_arg, write_form}
use Rattle.hl_meaning.specs.Places.{variable_type}
use Rattle.hl_meaning.specs.Programs.{Variable}
use Rattle.hl_meaning.specs.Layout.{kinds_of, words_of}
use Rattle.hl_source.specs.Operations.{map_2, word_as}
use Rattle.hl_source.specs.State.{Context, Progress, State, after, alone, ends_at, first_then, goes_with, variable_words, with_variable}
use Rattle.hl_source.specs.Memory.{read_place, write_place}
use Rattle.hl_source.specs.Expressions.{acts, arguments, copies_in, copies_out, evaluates, indexes, initial_parameters, value_of_words}
use Rattle.hl_inline.specs.FlatTrees.{Flat, FlatStmt, flat_local, flat_run}
use Rattle.hl_inline.specs.FlatLane.{FlatLeaving, flat_context, flat_done, flat_end, then_flat}
use Rattle.hl_inline.specs.Operands.{filled_place}
use Rattle.typed_laws.specs.Operands.{place_exprs}
use Rattle.hl_inline.specs.Emitting.{Emitter, Valued, Values, emit_all, reading}
use Rattle.hl_inline.specs.Fresh.{Fresh, Instance, next_of}
use Rattle.hl_inline.specs.InlinedCalls.{Passed, copy_back, pass_all, start_value}
use Rattle.typed_laws.proofs.Induction.{Every}
use Rattle.typed_laws.proofs.ProgressLemmas.{after_assoc, after_cong, after_giving, giving}
use Rattle.typed_laws.proofs.OperandValues.{evaluate_all, indexes_all}
use Rattle.hl_inline.proofs.OperandLemmas.{args_by}
use Rattle.hl_inline.proofs.FilledLemmas.{filled_operands}
use Rattle.hl_inline.proofs.Relation.{Alike, IsOutside, Keeps, KeepsAll, Related, Stands, flat_of_context, keeps_all_trans}
use Rattle.typed_laws.proofs.Variables.{count_by_sizes, variable_size, words_set_other, words_set_same}
use Rattle.hl_inline.proofs.Reading.{Acting, IsChangedPlace, PlaceIn, acting_follows, alike_read_place, alike_then, alike_write_place}
use Rattle.typed_laws.proofs.Fitting.{fits_length}
use Rattle.hl_inline.proofs.FittingWords.{reading_words}
use Rattle.hl_inline.proofs.Performing.{Opens, Runs, alike_map, perform, runs_map, runs_then}
use Rattle.typed_laws.specs.Fitting.{Yields}
use Rattle.hl_inline.proofs.Emission.{Emits, KeepsFrom, Later, Stays, all_close, all_grow, all_names, all_typed, keeps_from_more, keeps_refl, related_set_other, storing}
use Rattle.typed_laws.proofs.Sound.{HasPlaceValue, HasValue}
use Rattle.hl_inline.proofs.Fronts.{IsFront, front_length, front_refl, front_trans, type_there}

-- the variables from a number on hold the words of as many parameters
abbrev pub HeldAs : State → (number : ℕ) → List Parameter → List (List ℕ) → Type 0
HeldAs t number [] words = Unit {0}
HeldAs t number (p ∷ parameters) [] = ⊥
HeldAs t number (p ∷ parameters) (ws ∷ words) = (variable_words t number ≡ ws) × HeldAs t (suc number) parameters words

pub held_kept : (t u : State) (number : ℕ) (parameters : List Parameter) (words : List (List ℕ)) → ((w : ℕ) → number ≤ w → w < number + length parameters → variable_words u w ≡ variable_words t w) →
    HeldAs t number parameters words → HeldAs u number parameters words
held_kept t u number [] words keep held = tt
held_kept t u number (p ∷ parameters) [] keep held = held
held_kept t u number (p ∷ parameters) (ws ∷ words) keep held =
    (keep number (omega arith) (omega arith) ∙ held.0, held_kept t u (suc number) parameters words (λ w above lower. keep w (omega (arith, above)) (omega (arith, lower))) held.1)

-- the variables below a number are as they were, but those of a function and those of the parameters that are set
abbrev pub KeepsApart : (first size number count below : ℕ) → State → State → Type 0
KeepsApart first size number count below t u =
    (w : ℕ) → w < below → IsOutside first size w → (w < number) ⊎ (number + count ≤ w) → variable_words u w ≡ variable_words t w

abbrev pub arg_type : Arg → Ty
arg_type (value_arg value) = type_of value
arg_type (place_arg place) = place_type place

-- the variables from a number on have the types of the arguments
abbrev pub ArgsTyped : List Variable → (number : ℕ) → Args → Type 0
ArgsTyped V number no_args = Unit {0}
ArgsTyped V number (more_args arg rest) = (variable_type V number ≡ Some (arg_type arg)) × ArgsTyped V (suc number) rest

pub zeros_are : (ws : List ℕ) → map {B = ℕ} (λ _. 0) ws ≡ replicate (length ws) 0
zeros_are [] = refl
zeros_are (w ∷ ws) = ap (λ l. 0 ∷ l) (zeros_are ws)

opens_alike : {A : Type 0} (M : State → Type 0) (R : State → State → Type 0) (p : Progress A) (t : State) (k : State → Progress A) → M t → Alike R p (k t) → Opens M R p (goes_with flat_end t) k
opens_alike M R (goes_with a s) t k m (u, e, r) = (t, refl, m, (u, e, r))
opens_alike M R (ends_at run) t k m e = inr (t, refl, m, e)

pub runs_giving : {A B : Type 0} (R : A → State → State → Type 0) (S : B → State → State → Type 0) (h : A → B) (p : Progress A) (q : Progress FlatLeaving) → Runs R p q →
    ((a : A) (s t : State) → R a s t → S (h a) s t) → Runs S (giving h p) q
runs_giving R S h (goes_with a s) q (t, e, r) next = (t, e, next a s t r)
runs_giving R S h (ends_at run) q e next = e

runs_given : {A B : Type 0} (p : Progress A) (h : A → B) (R : State → State → Type 0) (q : Progress FlatLeaving) → Runs (λ _ s t. R s t) (giving h p) q → Runs (λ _ s t. R s t) p q
runs_given (goes_with a s) h R q r = r
runs_given (ends_at run) h R q e = e

yields_map : {A : Type 0} (P Q : A → Type 0) → ((a : A) → P a → Q a) → (p : Progress A) → Yields P p → Yields Q p
yields_map P Q h (goes_with a s) y = h a y
yields_map P Q h (ends_at run) y = tt

module _ (c : Context) (V : List Variable) (first : ℕ) (stands : Stands c V first) (f : Flat) (lane : Lane) (n : ℕ) (known : flat_context f lane ≡ flat_of_context c V) (D : ℕ → Type 0) (em : Expr → Emitter) where
  abbrev pub ArgReady : Arg → Type 0
  ArgReady (value_arg value) = Emits c V first stands f lane n known D value (em value) × HasValue c value
  ArgReady (place_arg place) =
      PlaceIn c D place × IsChangedPlace place × Every (λ e. Emits c V first stands f lane n known D e (em e)) (place_exprs place) × Every (HasValue c) (place_exprs place) × HasPlaceValue c place

  -- each argument can be passed to its parameter
  abbrev pub ArgsReady : Args → List Parameter → Type 0
  ArgsReady no_args [] = Unit {0}
  ArgsReady (more_args arg rest) (p ∷ parameters) = ArgReady arg × ArgsReady rest parameters
  ArgsReady _ _ = ⊥

  -- What is written back, once the indexes are evaluated and where they are kept: the parameters hold some words.
  abbrev pub CopiesAs : (from below number : ℕ) → Args → List Parameter → List FlatStmt → List (List ℕ) → State → Type 0
  CopiesAs from below number args parameters copies operands t1 =
      (words : List (List ℕ)) (s t : State) → Related c V first D s t → KeepsFrom from below t1 t → HeldAs t number parameters words →
      Runs (λ _ s1 u. Related c V first D s1 u × KeepsAll first (length c.scope.variables) t u) (copies_out c args operands words s) (perform f lane n copies t)

  pub record PassedAs (from below number : ℕ) (args : Args) (parameters : List Parameter) (copies : List FlatStmt) (t : State) (operands : List (List ℕ)) (s1 t1 : State) : Type 0 where
    pub related : Related c V first D s1 t1
    pub keeps : KeepsApart first (length c.scope.variables) number (length parameters) from t t1
    pub held : HeldAs t1 number parameters (initial_parameters operands)
    pub exact : length (initial_parameters operands) ≡ length parameters
    pub copy : CopiesAs from below number args parameters copies operands t1

  -- statements of one variable or value

  running : Progress (List ℕ) → Progress FlatLeaving
  running p = after (flat_done p) (then_flat (λ s. goes_with flat_end s))

  pub run_alike : (S : State → State → Type 0) (value : Expr) (p : Progress (List ℕ)) (t : State) → Alike S p (evaluates (flat_of_context c V) value t) →
      Runs (λ _ s u. S s u) p (perform f lane n (flat_run value ∷ []) t)
  unfolding running
  run_alike S value (goes_with a s) t (u, e, r) = (u, ap (λ d. running (evaluates d value t)) known ∙ ap running e, r)
  run_alike S value (ends_at run) t e = ap (λ d. running (evaluates d value t)) known ∙ ap running e

  pub declares_zeros : (w : ℕ) (t : State) → perform f lane n (flat_local w None ∷ []) t ≡ goes_with flat_end (with_variable w (map (λ _. 0) (variable_words t w)) t)
  declares_zeros w t = refl

  -- indexes that are kept

  kept_indexes : (to : Location) (ws : List (List ℕ)) (t : State) → evaluate_all (flat_of_context c V) (place_exprs to) t ≡ goes_with ws t → indexes (flat_of_context c V) to t ≡ goes_with (concat ws) t
  kept_indexes to ws t e = indexes_all (flat_of_context c V) to t ∙ ap (giving concat) e

  -- a place is read where its indexes are kept
  kept_read : (place : Location) (es : List Expr) (at : ℕ) (ws : List (List ℕ)) → PlaceIn c D place → (s t : State) → Related c V first D s t →
      evaluate_all (flat_of_context c V) (place_exprs (filled_place first place es)) t ≡ goes_with ws t →
      Alike (Acting c V first D t) (read_place c place (concat ws) s) (evaluates (flat_of_context c V) (an_expr (place_type (filled_place first place es)) at (read_form (filled_place first place es))) t)
  kept_read place es at ws inside s t r e =
      subst (λ p. Alike (Acting c V first D t) (read_place c place (concat ws) s) (after (alone p) (acts (flat_of_context c V) (place_type (filled_place first place es)) (read_form (filled_place first place es)))))
      (sym (kept_indexes (filled_place first place es) ws t e))
      (alike_read_place c V first D t stands place es (concat ws) inside s t (r, λ w outside. refl))

  -- a parameter is written back to a place whose indexes are kept
  kept_write : (place : Location) (es : List Expr) (at number : ℕ) (ws : List (List ℕ)) (words : List ℕ) → PlaceIn c D place → IsChangedPlace place → HasPlaceValue c place →
      variable_type V number ≡ Some (place_type place) → (s t : State) → Related c V first D s t → variable_words t number ≡ words →
      evaluate_all (flat_of_context c V) (place_exprs (filled_place first place es)) t ≡ goes_with ws t →
      Runs (λ _ s1 u. Related c V first D s1 u × KeepsAll first (length c.scope.variables) t u) (write_place c place (concat ws) (value_of_words c (place_type place) words) s)
      (perform f lane n (copy_back (filled_place first place es) at number ∷ []) t)
  kept_write (a_location ty root parts) es at number ws words inside changed value typed s t r held e =
      runs_given (write_place c (a_location ty root parts) (concat ws) v s) (λ _. v) _ _
      (run_alike (λ s1 u. Related c V first D s1 u × KeepsAll first (length c.scope.variables) t u) (an_expr ty at (write_form to None ty (reading ty at number) false)) _ t
      (subst (λ p. Alike (Acting c V first D t) (giving (λ _. v) (write_place c (a_location ty root parts) (concat ws) v s)) (after (first_then p (λ s'. alone (evaluates (flat_of_context c V) (reading ty at number) s')))
      (acts (flat_of_context c V) ty (write_form to None ty (reading ty at number) false)))) (sym (kept_indexes to ws t e))
      (subst (λ p. Alike (Acting c V first D t) (giving (λ _. v) (write_place c (a_location ty root parts) (concat ws) v s)) (after (giving (λ more. concat ws ∷ more) (alone p))
      (acts (flat_of_context c V) ty (write_form to None ty (reading ty at number) false)))) (sym reads)
      (alike_then (Acting c V first D t) (acting_follows c V first D t) _ _ (λ _. v)
      (alike_write_place c V first D t stands (a_location ty root parts) es (concat ws) v inside changed s t (r, λ w outside. refl))))))
    where
      to : Location
      to = filled_place first (a_location ty root parts) es

      v : List ℕ
      v = map_2 word_as (kinds_of c.scope.structs ty) words

      long : length words ≡ words_of c.scope.structs ty
      long = subst (λ l. length l ≡ words_of c.scope.structs ty) held (variable_size c V t number ty r.flat_sizes typed)

      reads : evaluates (flat_of_context c V) (reading ty at number) t ≡ goes_with (map_2 word_as (kinds_of c.scope.structs ty) words) t
      reads = reading_words c V ty at number words t typed long value.small held

  -- what the variable of a parameter starts with whose argument is a place
  abbrev pub StartedAs : (below number : ℕ) → State → List ℕ → State → State → Type 0
  StartedAs below number t start s u =
      Related c V first D s u × (variable_words u number ≡ start) ×
      ((w : ℕ) → w < below → IsOutside first (length c.scope.variables) w → (w ≡ number → ⊥) → variable_words u w ≡ variable_words t w)

  starts_read : (place : Location) (es : List Expr) (at below number : ℕ) (ws : List (List ℕ)) → PlaceIn c D place → HasPlaceValue c place → first + length c.scope.variables ≤ number →
      variable_type V number ≡ Some (place_type place) → (s t : State) → Related c V first D s t →
      evaluate_all (flat_of_context c V) (place_exprs (filled_place first place es)) t ≡ goes_with ws t →
      Runs (StartedAs below number t) (read_place c place (concat ws) s)
      (perform f lane n (flat_local number (Some (an_expr (place_type (filled_place first place es)) at (read_form (filled_place first place es)))) ∷ []) t)
  starts_read place es at below number ws inside value high typed s t r e =
      storing c V first stands f lane n known D number (place_type place) [] (an_expr (place_type (filled_place first place es)) at (read_form (filled_place first place es))) below high typed t
      (read_place c place (concat ws) s)
      (opens_alike (Keeps first (length c.scope.variables) below t) (Later c V first D below t) (read_place c place (concat ws) s) t _ (keeps_refl first (length c.scope.variables) below t)
      (alike_map (Acting c V first D t) (Later c V first D below t) (λ s1 u x. (x.0, λ w lower outside. x.1 w outside)) _ _ (kept_read place es at ws inside s t r e)))
      (value.long (concat ws) s)

  starting : (copying : Copying) (place : Location) (es : List Expr) (at below number : ℕ) (ws : List (List ℕ)) → PlaceIn c D place → HasPlaceValue c place → first + length c.scope.variables ≤ number →
      variable_type V number ≡ Some (place_type place) → (s t : State) → Related c V first D s t →
      evaluate_all (flat_of_context c V) (place_exprs (filled_place first place es)) t ≡ goes_with ws t →
      Runs (StartedAs below number t) (copies_in c copying place (concat ws) s) (perform f lane n (flat_local number (start_value copying (filled_place first place es) at) ∷ []) t)
  starting CopyIn place es at below number ws inside value high typed s t r e = starts_read place es at below number ws inside value high typed s t r e
  starting CopyBoth place es at below number ws inside value high typed s t r e = starts_read place es at below number ws inside value high typed s t r e
  starting CopyOut place es at below number ws inside value high typed s t r e = (
    with_variable number (map (λ _. 0) (variable_words t number)) t,
    declares_zeros number t,
    (
      related_set_other c V first D number (map (λ _. 0) (variable_words t number)) s t stands.below r high (length-map (variable_words t number) (λ _. 0)),
      words_set_same number (map (λ _. 0) (variable_words t number)) t (subst (λ k. number < k) (sym (count_by_sizes c V t r.flat_sizes)) (type_there V number (place_type place) typed)) ∙
          (zeros_are (variable_words t number) ∙ ap (λ k. replicate k 0) (variable_size c V t number (place_type place) r.flat_sizes typed)),
      λ w lower outside apart. words_set_other number w (map (λ _. 0) (variable_words t number)) t apart,
    ),
  )

  -- arguments in order

  pub pass_grows : (i : Instance) (at number : ℕ) (args : Args) (parameters : List Parameter) → ArgsReady args parameters → (fresh : Fresh) →
      IsFront fresh.variables (pass_all i at number (args_by em args) parameters fresh).fresh.variables
  pass_grows i at number no_args [] ready fresh = front_refl fresh.variables
  pass_grows i at number no_args (p ∷ parameters) ready fresh = absurd ready
  pass_grows i at number (more_args (value_arg value) rest) [] ready fresh = absurd ready
  pass_grows i at number (more_args (place_arg place) rest) [] ready fresh = absurd ready
  pass_grows i at number (more_args (value_arg value) rest) (p ∷ parameters) ready fresh =
      front_trans fresh.variables ((em value).emit fresh).fresh.variables _ (ready.0.0.grows fresh) (pass_grows i at (suc number) rest parameters ready.1 ((em value).emit fresh).fresh)
  pass_grows i at number (more_args (place_arg place) rest) (p ∷ parameters) ready fresh =
      front_trans fresh.variables (emit_all true (map em (place_exprs place)) fresh).fresh.variables _
      (all_grow c V first stands f lane n known D em (place_exprs place) ready.0.2 true fresh)
      (pass_grows i at (suc number) rest parameters ready.1 (emit_all true (map em (place_exprs place)) fresh).fresh)

  pub pass_names : (i : Instance) (at number : ℕ) (args : Args) (parameters : List Parameter) → ArgsReady args parameters → (fresh : Fresh) →
      fresh.names ≤ (pass_all i at number (args_by em args) parameters fresh).fresh.names
  pass_names i at number no_args [] ready fresh = omega arith
  pass_names i at number no_args (p ∷ parameters) ready fresh = absurd ready
  pass_names i at number (more_args (value_arg value) rest) [] ready fresh = absurd ready
  pass_names i at number (more_args (place_arg place) rest) [] ready fresh = absurd ready
  pass_names i at number (more_args (value_arg value) rest) (p ∷ parameters) ready fresh =
      omega (arith, ready.0.0.names fresh, pass_names i at (suc number) rest parameters ready.1 ((em value).emit fresh).fresh)
  pass_names i at number (more_args (place_arg place) rest) (p ∷ parameters) ready fresh =
      omega (arith, all_names c V first stands f lane n known D em (place_exprs place) ready.0.2 true fresh, pass_names i at (suc number) rest parameters ready.1 (emit_all true (map em (place_exprs place)) fresh).fresh)

  module _ (number from middle below : ℕ) (high : first + length c.scope.variables ≤ number) (rest : Args) (parameters : List Parameter) (p : Parameter) (room : number + suc (length parameters) ≤ from) (low : from ≤ middle) where
    -- behind the variable of a value
    pass_value : (value : Expr) (copies : List FlatStmt) (a : List ℕ) (t t1 : State) → variable_words t1 number ≡ a →
        ((w : ℕ) → w < from → IsOutside first (length c.scope.variables) w → (w ≡ number → ⊥) → variable_words t1 w ≡ variable_words t w) →
        (operands : List (List ℕ)) (s2 t2 : State) → PassedAs middle below (suc number) rest parameters copies t1 operands s2 t2 →
        PassedAs from below number (more_args (value_arg value) rest) (p ∷ parameters) copies t ([] ∷ a ∷ operands) s2 t2
    pass_value value copies a t t1 has keep operands s2 t2 x = record { related = x.related; keeps = keeps; held = (has_still, x.held); exact = ap suc x.exact; copy = copy }
      where
        has_still : variable_words t2 number ≡ a
        has_still = x.keeps number (omega (arith, room, low)) (inr high) (inl (omega arith)) ∙ has

        further : (w : ℕ) → (w < number) ⊎ (number + suc (length parameters) ≤ w) → (w < suc number) ⊎ (suc number + length parameters ≤ w)
        further w (inl lower) = inl (omega (arith, lower))
        further w (inr above) = inr (omega (arith, above))

        apart : (w : ℕ) → (w < number) ⊎ (number + suc (length parameters) ≤ w) → w ≡ number → ⊥
        apart w (inl lower) is = omega (arith, lower, is)
        apart w (inr above) is = omega (arith, above, is)

        keeps : KeepsApart first (length c.scope.variables) number (suc (length parameters)) from t t2
        keeps w lower outside beside = x.keeps w (omega (arith, lower, low)) outside (further w beside) ∙ keep w lower outside (apart w beside)

        copy : CopiesAs from below number (more_args (value_arg value) rest) (p ∷ parameters) copies ([] ∷ a ∷ operands) t2
        copy [] s3 t3 r keep held = absurd held
        copy (ws ∷ words) s3 t3 r keep held = x.copy words s3 t3 r (keeps_from_more from middle below t2 t3 low keep) held.1

    -- behind the variable of a place
    pass_place : (place : Location) (es : List Expr) (at : ℕ) (copies : List FlatStmt) → PlaceIn c D place → IsChangedPlace place → HasPlaceValue c place → variable_type V number ≡ Some (place_type place) →
        length es ≡ length (place_exprs place) → middle ≤ below → (ws : List (List ℕ)) (t s1 t1 : State) → Stays c V first D from middle t (evaluate_all (flat_of_context c V) es) ws s1 t1 →
        (start : List ℕ) (s2 t2 : State) → StartedAs middle number t1 start s2 t2 →
        (operands : List (List ℕ)) (s3 t3 : State) → PassedAs middle below (suc number) rest parameters copies t2 operands s3 t3 →
        PassedAs from below number (more_args (place_arg place) rest) (p ∷ parameters) (copy_back (filled_place first place es) at number ∷ copies) t (concat ws ∷ start ∷ operands) s3 t3
    pass_place place es at copies inside changed value typed long lower_still ws t s1 t1 stays start s2 t2 started operands s3 t3 x = record { related = x.related; keeps = keeps; held = (has_still, x.held); exact = ap suc x.exact; copy = copy }
      where
        has_still : variable_words t3 number ≡ start
        has_still = x.keeps number (omega (arith, room, low)) (inr high) (inl (omega arith)) ∙ started.1

        further : (w : ℕ) → (w < number) ⊎ (number + suc (length parameters) ≤ w) → (w < suc number) ⊎ (suc number + length parameters ≤ w)
        further w (inl lower) = inl (omega (arith, lower))
        further w (inr above) = inr (omega (arith, above))

        apart : (w : ℕ) → (w < number) ⊎ (number + suc (length parameters) ≤ w) → w ≡ number → ⊥
        apart w (inl lower) is = omega (arith, lower, is)
        apart w (inr above) is = omega (arith, above, is)

        keeps : KeepsApart first (length c.scope.variables) number (suc (length parameters)) from t t3
        keeps w lower outside beside =
            x.keeps w (omega (arith, lower, low)) outside (further w beside) ∙ (started.2 w (omega (arith, lower, low)) outside (apart w beside) ∙ stays.0.1 w lower outside)

        -- the new variables of the indexes are still as they were
        still : (t4 : State) → KeepsFrom from below t3 t4 → KeepsFrom from middle t1 t4
        still t4 keep w above lower =
            keep w above (omega (arith, lower, lower_still)) ∙
            (x.keeps w lower (inr (omega (arith, high, room, above))) (inr (omega (arith, room, above))) ∙
            started.2 w lower (inr (omega (arith, high, room, above))) (λ is. omega (arith, is, room, above)))

        indexed : (t4 : State) → KeepsFrom from below t3 t4 → evaluate_all (flat_of_context c V) (place_exprs (filled_place first place es)) t4 ≡ goes_with ws t4
        indexed t4 keep = ap (λ l. evaluate_all (flat_of_context c V) l t4) (filled_operands first (read_form place) es refl long) ∙ stays.1 t4 (still t4 keep)

        copy : CopiesAs from below number (more_args (place_arg place) rest) (p ∷ parameters) (copy_back (filled_place first place es) at number ∷ copies) (concat ws ∷ start ∷ operands) t3
        copy [] s4 t4 r keep held = absurd held
        copy (w0 ∷ words) s4 t4 r keep held =
            runs_then f lane n (λ _ s5 u. Related c V first D s5 u × KeepsAll first (length c.scope.variables) t4 u) (λ _ s5 u. Related c V first D s5 u × KeepsAll first (length c.scope.variables) t4 u)
            (copy_back (filled_place first place es) at number ∷ []) copies t4 (write_place c place (concat ws) (value_of_words c (place_type place) w0) s4) (λ _ s5. copies_out c rest operands words s5)
            (kept_write place es at number ws w0 inside changed value typed s4 t4 r held.0 (indexed t4 keep))
            (λ _ s5 u after_one.
            runs_map (λ _ s6 v. Related c V first D s6 v × KeepsAll first (length c.scope.variables) u v) (λ _ s6 v. Related c V first D s6 v × KeepsAll first (length c.scope.variables) t4 v)
            (λ _ s6 v y. (y.0, keeps_all_trans first (length c.scope.variables) t4 u v after_one.1 y.1)) _ _
            (x.copy words s5 u after_one.0
            (λ w above lower. after_one.1 w (inr (omega (arith, high, room, low, above))) ∙ keep w (omega (arith, low, above)) lower)
            (held_kept t4 u (suc number) parameters words (λ w above lower. after_one.1 w (inr (omega (arith, high, above)))) held.1)))

  -- how the operands of an argument and those behind it come about

  value_operands : (value : Expr) (rest : Args) (p : Parameter) (parameters : List Parameter) (s : State) →
      arguments c (more_args (value_arg value) rest) (p ∷ parameters) s ≡ after (evaluates c value s) (λ a s1. giving (λ more. [] ∷ a ∷ more) (arguments c rest parameters s1))
  value_operands value rest p parameters s = after_giving (λ a. [] ∷ a ∷ []) (evaluates c value s) _

  -- a place's indexes, and what its parameter starts with
  abbrev pub place_start : (place : Location) (copying : Copying) (s : State) → Progress (List (List ℕ) × List ℕ)
  place_start place copying s = after (evaluate_all c (place_exprs place) s) (λ ws s1. giving (λ start. (ws, start)) (copies_in c copying place (concat ws) s1))

  place_operands : (place : Location) (rest : Args) (p : Parameter) (parameters : List Parameter) (s : State) →
      arguments c (more_args (place_arg place) rest) (p ∷ parameters) s ≡
      after (place_start place p.copying s) (λ x s1. giving (λ more. concat x.0 ∷ x.1 ∷ more) (arguments c rest parameters s1))
  place_operands place rest p parameters s =
      ap (λ q. after (after q (λ at s1. after (copies_in c p.copying place at s1) (λ start s2. goes_with (at ∷ start ∷ []) s2))) (λ some s1. giving (λ more. some ++ more) (arguments c rest parameters s1)))
      (indexes_all c place s) ∙
      (ap (λ q. after q (λ some s1. giving (λ more. some ++ more) (arguments c rest parameters s1))) (after_giving concat (evaluate_all c (place_exprs place) s) _) ∙
      (after_assoc (evaluate_all c (place_exprs place) s) _ _ ∙
      (after_cong (evaluate_all c (place_exprs place) s) _ _ (λ ws s1.
      after_giving (λ start. concat ws ∷ start ∷ []) (copies_in c p.copying place (concat ws) s1) _ ∙
      sym (after_giving (λ start. (ws, start)) (copies_in c p.copying place (concat ws) s1) _)) ∙
      sym (after_assoc (evaluate_all c (place_exprs place) s) _ _))))

  -- behind the indexes of a place and the start of its parameter: the state between both, and what holds there and then
  abbrev pub BothAs : (from middle number : ℕ) → List Expr → State → (List (List ℕ) × List ℕ) → State → State → Type 0
  BothAs from middle number es t both s2 t2 =
      (s1 : State) × (t1 : State) × Stays c V first D from middle t (evaluate_all (flat_of_context c V) es) both.0 s1 t1 × StartedAs middle number t1 both.1 s2 t2

  pub passing : (i : Instance) → i.first ≡ first → (at number : ℕ) (args : Args) (parameters : List Parameter) → ArgsReady args parameters → ArgsTyped V number args → (fresh : Fresh) → first + length c.scope.variables ≤ number →
      number + length parameters ≤ next_of fresh → IsFront (pass_all i at number (args_by em args) parameters fresh).fresh.variables V → (s t : State) → Related c V first D s t →
      Runs (PassedAs (next_of fresh) (next_of (pass_all i at number (args_by em args) parameters fresh).fresh) number args parameters (pass_all i at number (args_by em args) parameters fresh).copies t)
      (arguments c args parameters s) (perform f lane n (pass_all i at number (args_by em args) parameters fresh).code t)
  passing i is at number no_args [] ready typed fresh high room front s t r =
      (t, refl, record { related = r; keeps = λ w lower outside beside. refl; held = tt; exact = refl; copy = λ words s1 t1 r1 keep held. (t1, refl, (r1, λ w outside. refl)) })
  passing i is at number no_args (p ∷ parameters) ready typed fresh high room front s t r = absurd ready
  passing i is at number (more_args (value_arg value) rest) [] ready typed fresh high room front s t r = absurd ready
  passing i is at number (more_args (place_arg place) rest) [] ready typed fresh high room front s t r = absurd ready
  passing i is at number (more_args (value_arg value) rest) (p ∷ parameters) ready typed fresh high room front s t r =
      subst (λ q. Runs (PassedAs (next_of fresh) (next_of y.fresh) number (more_args (value_arg value) rest) (p ∷ parameters) y.copies t) q (perform f lane n ((x.code ++ flat_local number (Some x.value) ∷ []) ++ y.code) t))
      (sym (value_operands value rest p parameters s))
      (runs_then f lane n _ _ (x.code ++ flat_local number (Some x.value) ∷ []) y.code t (evaluates c value s) (λ a s1. giving (λ more. [] ∷ a ∷ more) (arguments c rest parameters s1))
      (storing c V first stands f lane n known D number (type_of value) x.code x.value (next_of fresh) high typed.0 t (evaluates c value s)
      (ready.0.0.opens fresh (omega (arith, high, room), front_trans x.fresh.variables y.fresh.variables V grown front) s t r)
      (yields_map _ _ (λ a fits. fits_length c.scope.structs (type_of value) a fits) (evaluates c value s) (ready.0.1.fits s)))
      (λ a s1 t1 stored.
      runs_giving _ _ (λ more. [] ∷ a ∷ more) (arguments c rest parameters s1) _
      (passing i is at (suc number) rest parameters ready.1 typed.1 x.fresh (omega (arith, high)) (omega (arith, room, low)) front s1 t1 stored.0)
      (λ operands s2 t2 passed.
      pass_value number (next_of fresh) (next_of x.fresh) (next_of y.fresh) high rest parameters p room low value y.copies a t t1 stored.1 stored.2 operands s2 t2 passed)))
    where
      x : Valued
      x = (em value).emit fresh

      y : Passed
      y = pass_all i at (suc number) (args_by em rest) parameters ((em value).emit fresh).fresh

      low : next_of fresh ≤ next_of ((em value).emit fresh).fresh
      low = front_length fresh.variables ((em value).emit fresh).fresh.variables (ready.0.0.grows fresh)

      grown : IsFront ((em value).emit fresh).fresh.variables (pass_all i at (suc number) (args_by em rest) parameters ((em value).emit fresh).fresh).fresh.variables
      grown = pass_grows i at (suc number) rest parameters ready.1 ((em value).emit fresh).fresh
  passing i is at number (more_args (place_arg place) rest) (p ∷ parameters) ready typed fresh high room front s t r =
      subst (λ k. Runs (PassedAs (next_of fresh) (next_of y.fresh) number (more_args (place_arg place) rest) (p ∷ parameters) (copy_back (filled_place k place x.values) at number ∷ y.copies) t)
      (arguments c (more_args (place_arg place) rest) (p ∷ parameters) s)
      (perform f lane n ((x.code ++ flat_local number (start_value p.copying (filled_place k place x.values) at) ∷ []) ++ y.code) t)) (sym is)
      (subst (λ q. Runs (PassedAs (next_of fresh) (next_of y.fresh) number (more_args (place_arg place) rest) (p ∷ parameters) (copy_back (filled_place first place x.values) at number ∷ y.copies) t) q
      (perform f lane n ((x.code ++ flat_local number (start_value p.copying (filled_place first place x.values) at) ∷ []) ++ y.code) t)) (sym (place_operands place rest p parameters s))
      (runs_then f lane n (BothAs (next_of fresh) (next_of (emit_all true (map em (place_exprs place)) fresh).fresh) number (emit_all true (map em (place_exprs place)) fresh).values t) _ (x.code ++ flat_local number (start_value p.copying (filled_place first place x.values) at) ∷ []) y.code t (place_start place p.copying s)
      (λ both s1. giving (λ more. concat both.0 ∷ both.1 ∷ more) (arguments c rest parameters s1)) first_part
      (λ both s2 t2 started.
      runs_giving _ _ (λ more. concat both.0 ∷ both.1 ∷ more) (arguments c rest parameters s2) _
      (passing i is at (suc number) rest parameters ready.1 typed.1 x.fresh (omega (arith, high)) (omega (arith, room, low)) front s2 t2 started.3.0)
      (λ operands s3 t3 passed.
      pass_place number (next_of fresh) (next_of x.fresh) (next_of y.fresh) high rest parameters p room low place x.values at y.copies ready.0.0 ready.0.1 ready.0.4 typed.0 counted
      (front_length x.fresh.variables y.fresh.variables grown) both.0 t started.0 started.1 started.2 both.1 s2 t2 started.3 operands s3 t3 passed))))
    where
      x : Values
      x = emit_all true (map em (place_exprs place)) fresh

      y : Passed
      y = pass_all i at (suc number) (args_by em rest) parameters (emit_all true (map em (place_exprs place)) fresh).fresh

      low : next_of fresh ≤ next_of (emit_all true (map em (place_exprs place)) fresh).fresh
      low = front_length fresh.variables _ (all_grow c V first stands f lane n known D em (place_exprs place) ready.0.2 true fresh)

      grown : IsFront (emit_all true (map em (place_exprs place)) fresh).fresh.variables
          (pass_all i at (suc number) (args_by em rest) parameters (emit_all true (map em (place_exprs place)) fresh).fresh).fresh.variables
      grown = pass_grows i at (suc number) rest parameters ready.1 (emit_all true (map em (place_exprs place)) fresh).fresh

      counted : length (emit_all true (map em (place_exprs place)) fresh).values ≡ length (place_exprs place)
      counted = sym (length-map (emit_all true (map em (place_exprs place)) fresh).values type_of) ∙
          (ap length (all_typed c V first stands f lane n known D em (place_exprs place) ready.0.2 true fresh) ∙ length-map (place_exprs place) type_of)

      first_part : Runs (BothAs (next_of fresh) (next_of (emit_all true (map em (place_exprs place)) fresh).fresh) number (emit_all true (map em (place_exprs place)) fresh).values t) (place_start place p.copying s)
          (perform f lane n ((emit_all true (map em (place_exprs place)) fresh).code ++ flat_local number (start_value p.copying (filled_place first place (emit_all true (map em (place_exprs place)) fresh).values) at) ∷ []) t)
      first_part =
          runs_then f lane n _ (BothAs (next_of fresh) (next_of (emit_all true (map em (place_exprs place)) fresh).fresh) number (emit_all true (map em (place_exprs place)) fresh).values t) (emit_all true (map em (place_exprs place)) fresh).code _ t (evaluate_all c (place_exprs place) s) _
          (all_close c V first stands f lane n known D em (place_exprs place) ready.0.2 ready.0.3 fresh
          (omega (arith, high, room), front_trans (emit_all true (map em (place_exprs place)) fresh).fresh.variables _ V grown front) s t r)
          (λ ws s1 t1 stays.
          runs_giving _ (BothAs (next_of fresh) (next_of (emit_all true (map em (place_exprs place)) fresh).fresh) number (emit_all true (map em (place_exprs place)) fresh).values t) (λ start. (ws, start)) (copies_in c p.copying place (concat ws) s1) _
          (starting p.copying place (emit_all true (map em (place_exprs place)) fresh).values at (next_of (emit_all true (map em (place_exprs place)) fresh).fresh) number ws ready.0.0 ready.0.4 high typed.0 s1 t1 stays.0.0
          (ap (λ l. evaluate_all (flat_of_context c V) l t1) (filled_operands first (read_form place) (emit_all true (map em (place_exprs place)) fresh).values refl counted) ∙ stays.1 t1 (λ w above lower. refl)))
          (λ start s2 t2 started. (s1, t1, stays, started)))

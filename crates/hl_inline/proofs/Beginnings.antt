-- What a program without calls does first: constants are set, and the parameters of the entry get their semantics.
use Rattle.std.proofs.Common.{◌≡◌, ◌∙◌, refl, sym, ap, subst, ℕ, zero, suc, ◌+◌, ◌<◌, List, [], ◌∷◌, map, length, Option, Some, slice_get, unwrap_or, get_or, arith}
use Rattle.std.specs.Prelude.{option_map, take}
use Rattle.std.specs.Option.{option_map_or}
use Rattle.std.specs.List.{concat}
use Rattle.lane_core.specs.Lane.{Lane}
use Rattle.lane_core.specs.Words.{wrapped}
use Rattle.hl_meaning.specs.declared.ty.Kind.{Kind}
use Rattle.hl_meaning.specs.declared.program.Parameter.{Parameter}
use Rattle.hl_meaning.specs.declared.program.Semantic.{Semantic}
use Rattle.hl_meaning.specs.Types.{Ty, component_count, void_type}
use Rattle.hl_meaning.specs.Trees.{build_form}
use Rattle.hl_meaning.specs.Places.{variable_type}
use Rattle.hl_meaning.specs.Programs.{Constant, Program, StructDef, Variable}
use Rattle.hl_meaning.specs.Layout.{kinds_of, words_of}
use Rattle.hl_meaning.specs.Views.{exprs_of}
use Rattle.hl_meaning.specs.WellFormed.{AreNumberedFrom, IsConstant, IsInput}
use Rattle.hl_meaning.proofs.LayoutForms.{length-kinds_of}
use Rattle.hl_source.specs.State.{Context, Progress, State, after, goes_with, variable_words, with_variable}
use Rattle.hl_source.specs.Statements.{at_end}
use Rattle.hl_source.specs.Expressions.{acts, evaluates, values}
use Rattle.hl_source.specs.SourceLane.{input_words, semantic_components}
use Rattle.lane_core.specs.Inputs.{coordinates_of}
use Rattle.hl_inline.specs.FlatTrees.{Flat, flat_input}
use Rattle.hl_inline.specs.FlatLane.{FlatLeaving, flat_context, flat_end, then_flat}
use Rattle.hl_inline.specs.InlinedPrograms.{constant_value, literals, set_constants, set_inputs}
use Rattle.typed_laws.proofs.Induction.{Every}
use Rattle.typed_laws.proofs.Variables.{count_by_sizes, sizes_at, sizes_in, sizes_set, variable_size, words_set_other, words_set_same}
use Rattle.hl_inline.proofs.Performing.{perform}
use Rattle.typed_laws.proofs.Inputs.{Input, components_length, hold_length, input_is, input_of, numeric_words, suits_numeric}
use Rattle.hl_inline.proofs.FirstStates.{nothing_more, one_more}
use Rattle.hl_inline.proofs.Fronts.{type_there}

-- variables that are set one after another

abbrev pub written : (number : ℕ) → List (List ℕ) → State → State
written number [] t = t
written number (ws ∷ words) t = written (suc number) words (with_variable number ws t)

-- each list of words is as long as the type of its variable says
abbrev pub AreWords : Context → List Variable → (number : ℕ) → List (List ℕ) → Type 0
AreWords c V number [] = Unit {0}
AreWords c V number (ws ∷ words) = ((ty : Ty) × (variable_type V number ≡ Some ty) × (length ws ≡ words_of c.scope.structs ty)) × AreWords c V (suc number) words

pub written_exchange : (number : ℕ) (words : List (List ℕ)) (t : State) → (written number words t).exchange ≡ t.exchange
written_exchange number [] t = refl
written_exchange number (ws ∷ words) t = written_exchange (suc number) words (with_variable number ws t)

one_sizes : (c : Context) (V : List Variable) (number : ℕ) (ws : List ℕ) (t : State) → (ty : Ty) × (variable_type V number ≡ Some ty) × (length ws ≡ words_of c.scope.structs ty) → sizes_at t ≡ sizes_in c V → sizes_at (with_variable number ws t) ≡ sizes_in c V
one_sizes c V number ws t (ty, typed, long) sizes = sizes_set number ws t (long ∙ sym (variable_size c V t number ty sizes typed)) ∙ sizes

pub written_sizes : (c : Context) (V : List Variable) (number : ℕ) (words : List (List ℕ)) (t : State) → AreWords c V number words → sizes_at t ≡ sizes_in c V → sizes_at (written number words t) ≡ sizes_in c V
written_sizes c V number [] t are sizes = sizes
written_sizes c V number (ws ∷ words) t are sizes = written_sizes c V (suc number) words (with_variable number ws t) are.1 (one_sizes c V number ws t are.0 sizes)

pub written_below : (number : ℕ) (words : List (List ℕ)) (t : State) (w : ℕ) → w < number → variable_words (written number words t) w ≡ variable_words t w
written_below number [] t w low = refl
written_below number (ws ∷ words) t w low =
    written_below (suc number) words (with_variable number ws t) w (omega (arith, low)) ∙ words_set_other number w ws t (λ e. omega (arith, e, low))

plus_suc : (m u : ℕ) → m + suc u ≡ suc (m + u)
plus_suc m u = omega arith

pub written_at : (c : Context) (V : List Variable) (number : ℕ) (words : List (List ℕ)) (t : State) → AreWords c V number words → sizes_at t ≡ sizes_in c V → (v : ℕ) → v < length words → variable_words (written number words t) (number + v) ≡ get_or words v []
written_at c V number [] t are sizes v low = absurd (omega (arith, low))
written_at c V number (ws ∷ words) t are sizes zero low =
    subst (λ m. variable_words (written (suc number) words (with_variable number ws t)) m ≡ ws) (sym (nothing_more number))
    (written_below (suc number) words (with_variable number ws t) number (omega arith) ∙
    words_set_same number ws t (subst (λ k. number < k) (sym (count_by_sizes c V t sizes)) (type_there V number are.0.0 are.0.1)))
written_at c V number (ws ∷ words) t are sizes (suc v) low =
    subst (λ m. variable_words (written (suc number) words (with_variable number ws t)) m ≡ get_or words v []) (sym (one_more number v))
    (written_at c V (suc number) words (with_variable number ws t) are.1 (one_sizes c V number ws t are.0 sizes) v (omega (arith, low)))

-- constants

abbrev ones : List ℕ → List (List ℕ)
ones words = map (λ w. w ∷ []) words

concat_ones : (words : List ℕ) → concat (ones words) ≡ words
concat_ones [] = refl
concat_ones (w ∷ words) = ap (λ l. w ∷ l) (concat_ones words)

literals_give : (c : Context) (at : ℕ) (kinds : List Kind) (words : List ℕ) (s : State) → length words ≡ length kinds → values c (exprs_of (literals at kinds words)) s ≡ goes_with (ones words) s
literals_give c at [] [] s e = refl
literals_give c at [] (w ∷ words) s e = absurd (omega (arith, e))
literals_give c at (kind ∷ kinds) [] s e = absurd (omega (arith, e))
literals_give c at (kind ∷ kinds) (w ∷ words) s e =
    ap (λ p. after p (λ more s'. goes_with ((w ∷ []) ∷ more) s')) (literals_give c at kinds words s (omega (arith, e)))

constant_gives : (c : Context) (structs : List StructDef) (k : Constant) (s : State) → IsConstant structs k → evaluates c (constant_value structs k) s ≡ goes_with k.words s
constant_gives c structs k s is =
    ap (λ p. after p (acts c k.variable.ty (build_form (exprs_of (literals k.variable.at (kinds_of structs k.variable.ty) k.words)))))
    (literals_give c k.variable.at (kinds_of structs k.variable.ty) k.words s (hold_length (kinds_of structs k.variable.ty) k.words is.words)) ∙
    ap (λ ws. goes_with ws s) (concat_ones k.words)

abbrev pub constants_words : List Constant → List (List ℕ)
constants_words constants = map (λ k. k.words) constants

abbrev setting : ℕ → Progress (List ℕ) → Progress FlatLeaving
setting number p = after (after p (λ words s. goes_with at_end (with_variable number words s))) (λ _ s. goes_with flat_end s)

pub constants_run : (f : Flat) (lane : Lane) (n : ℕ) (structs : List StructDef) (number : ℕ) (constants : List Constant) (t : State) → Every (IsConstant structs) constants →
    perform f lane n (set_constants structs number constants) t ≡ goes_with flat_end (written number (constants_words constants) t)
constants_run f lane n structs number [] t are = refl
constants_run f lane n structs number (k ∷ constants) t are =
    ap (λ p. after (setting number p) (then_flat (perform f lane n (set_constants structs (suc number) constants)))) (constant_gives (flat_context f lane) structs k t are.0) ∙
    constants_run f lane n structs (suc number) constants (with_variable number k.words t) are.1

pub constants_are : (c : Context) (V : List Variable) (number : ℕ) (constants : List Constant) → Every (IsConstant c.scope.structs) constants →
    ((k : ℕ) (ty : Ty) → option_map (λ d. d.variable.ty) (slice_get constants k) ≡ Some ty → variable_type V (number + k) ≡ Some ty) → AreWords c V number (constants_words constants)
constants_are c V number [] are typed = tt
constants_are c V number (k ∷ constants) are typed = (
  (
    k.variable.ty,
    subst (λ m. variable_type V m ≡ Some k.variable.ty) (nothing_more number) (typed 0 k.variable.ty refl),
    hold_length (kinds_of c.scope.structs k.variable.ty) k.words are.0.words ∙ length-kinds_of c.scope.structs k.variable.ty,
  ),
  constants_are c V (suc number) constants are.1 (λ j ty e. subst (λ m. variable_type V m ≡ Some ty) (one_more number j) (typed (suc j) ty e)),
)

pub constants_get : (constants : List Constant) (k : ℕ) → get_or (constants_words constants) k [] ≡ option_map_or (λ d. d.words) (slice_get constants k) []
constants_get [] k = refl
constants_get (c ∷ constants) zero = refl
constants_get (c ∷ constants) (suc k) = constants_get constants k

-- inputs

abbrev pub inputs_words : Program → Lane → List Variable → List Parameter → List (List ℕ)
inputs_words p lane variables parameters = map (input_words p lane variables) parameters

module _ (p : Program) (lane : Lane) (variables V : List Variable) (first : ℕ) (typed : (v : ℕ) (ty : Ty) → variable_type variables v ≡ Some ty → variable_type V (first + v) ≡ Some ty) where
  -- the words of an input, in the program and in the one without calls
  abbrev taken : (components : List ℕ) → Option Ty → List ℕ
  taken components o = take (component_count (unwrap_or o void_type)) components

  flat_input_is : (d : Parameter) (i : Input variables d) → taken (map wrapped (semantic_components (coordinates_of p.threads) lane (Some i.semantic))) (variable_type V (first + d.variable)) ≡ input_words p lane variables d
  flat_input_is d i =
      ap (taken (map wrapped (semantic_components (coordinates_of p.threads) lane (Some i.semantic)))) (typed d.variable i.ty i.is_typed) ∙ sym (input_is p lane variables d i)

  -- a parameter with a semantic is set
  one_input : (d : Parameter) (parameters : List Parameter) (semantic : Semantic) → d.semantic ≡ Some semantic → set_inputs first (d ∷ parameters) ≡ flat_input (first + d.variable) semantic ∷ set_inputs first parameters
  one_input d parameters semantic e = ap (λ o. set_inputs first (record d { semantic = o } ∷ parameters)) e

  pub inputs_run : (f : Flat) (n : ℕ) → f.variables ≡ V → f.threads ≡ p.threads → (number : ℕ) (parameters : List Parameter) (t : State) → AreNumberedFrom number parameters → Every (IsInput variables) parameters →
      perform f lane n (set_inputs first parameters) t ≡ goes_with flat_end (written (first + number) (inputs_words p lane variables parameters) t)
  inputs_run f n is_v is_threads number [] t numbered are = refl
  inputs_run f n is_v is_threads number (d ∷ parameters) t numbered are =
      let i = input_of variables d are.0 in
      ap (λ code. perform f lane n code t) (one_input d parameters i.semantic i.is_semantic) ∙
      (ap (λ ws. perform f lane n (set_inputs first parameters) (with_variable (first + d.variable) ws t)) (here i) ∙
      (ap (λ m. perform f lane n (set_inputs first parameters) (with_variable (first + m) (input_words p lane variables d) t)) numbered.0 ∙
      (inputs_run f n is_v is_threads (suc number) parameters (with_variable (first + number) (input_words p lane variables d) t) numbered.1 are.1 ∙
      ap (λ m. goes_with flat_end (written m (inputs_words p lane variables parameters) (with_variable (first + number) (input_words p lane variables d) t))) (plus_suc first number))))
    where
      here : (i : Input variables d) → taken (map wrapped (semantic_components (coordinates_of f.threads) lane (Some i.semantic))) (variable_type f.variables (first + d.variable)) ≡ input_words p lane variables d
      here i =
          ap (λ l. taken (map wrapped (semantic_components (coordinates_of f.threads) lane (Some i.semantic))) (variable_type l (first + d.variable))) is_v ∙
          (ap (λ l. taken (map wrapped (semantic_components (coordinates_of l) lane (Some i.semantic))) (variable_type V (first + d.variable))) is_threads ∙ flat_input_is d i)

  pub inputs_are : (c : Context) (number : ℕ) (parameters : List Parameter) → AreNumberedFrom number parameters → Every (IsInput variables) parameters → AreWords c V (first + number) (inputs_words p lane variables parameters)
  inputs_are c number [] numbered are = tt
  inputs_are c number (d ∷ parameters) numbered are =
      (one (input_of variables d are.0), subst (λ m. AreWords c V m (inputs_words p lane variables parameters)) (plus_suc first number) (inputs_are c (suc number) parameters numbered.1 are.1))
    where
      one : Input variables d → (ty : Ty) × (variable_type V (first + number) ≡ Some ty) × (length (input_words p lane variables d) ≡ words_of c.scope.structs ty)
      one i = (
        i.ty,
        typed number i.ty (subst (λ m. variable_type variables m ≡ Some i.ty) numbered.0 i.is_typed),
        ap length (input_is p lane variables d i) ∙ (components_length (coordinates_of p.threads) lane i.semantic i.ty i.suits ∙ numeric_words c.scope.structs i.ty (suits_numeric i.semantic i.ty i.suits)),
      )

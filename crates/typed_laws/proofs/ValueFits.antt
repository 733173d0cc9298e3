-- What operators, conversions and intrinsic functions give has the words of its type.
use Rattle.std.proofs.Common.{◌≡◌, ◌∙◌, refl, sym, ap, subst, ℕ, zero, suc, ◌+◌, ◌≤◌, ◌⊎◌, inl, inr, Bool, true, false, List, [], ◌∷◌, ◌++◌, map, length, None, Some, Result, Ok, Err, arith}
use Rattle.std.proofs.lemmas.List.Sums.{sum_by-cons}
use Rattle.std.specs.Prelude.{is_some, ◌==◌, ◌&&◌, ◌||◌, not, if◌then◌else◌, IsTrue, min, nat_lt, replicate, slice_index, sum_by}
use Rattle.std.specs.List.{concat, list_all}
use Rattle.std.proofs.lemmas.List.{length-map, length-replicate, length-take}
use Rattle.std.proofs.lemmas.Bool.{eqb-true, ltb-true}
use Rattle.std.proofs.lemmas.Option.{none-some, same_Some}
use Rattle.lane_core.specs.declared.event.LaneFault.{LaneFault}
use Rattle.hl_meaning.specs.declared.ty.Kind.{Kind}
use Rattle.hl_meaning.specs.declared.ty.Kind.TheVariants.{Bool as BoolKind, Int as IntKind, Uint as UintKind}
use Rattle.hl_meaning.specs.Types.{Ty, array_type, component_count, is_alike, is_basic, is_numeric, is_of, kind_eq, scalar_type, struct_type, vector_type, void_type, with_kind}
use Rattle.hl_meaning.specs.Conversions.{converts, kind_cost}
use Rattle.hl_meaning.specs.Operators.{binary_type, comparing, computing, is_among, joining, negating, signing, unary_type}
use Rattle.hl_meaning.specs.Programs.{StructDef}
use Rattle.hl_meaning.specs.Layout.{kinds_of}
use Rattle.hl_meaning.specs.WellFormed.{Builds}
use Rattle.lane_core.specs.Words.{holds, truth}
use Rattle.hl_source.specs.Operations.{all_ok, binary_word, binary_words, chosen_word, component_kind, converted, map_2, map_3, resized, unary_word, word_as}
use Rattle.hl_source.specs.State.{Progress, State, after, ends_at, gives, goes_with}
use Rattle.typed_laws.proofs.Induction.{Every}
use Rattle.typed_laws.proofs.ProgressLemmas.{giving}
use Rattle.typed_laws.specs.Fitting.{Fits, HasKinds, Yields}
use Rattle.typed_laws.proofs.Fitting.{kinds_length, word_as_twice}
use Rattle.typed_laws.proofs.KindParts.{kinds-scalar, kinds-vector}
use Rattle.typed_laws.proofs.Typed.{and_left, and_right, never}

-- parts of runs

pub yields_after : {A B : Type 0} (P : A → Type 0) (Q : B → Type 0) (p : Progress A) (g : A → State → Progress B) → Yields P p → ((a : A) (s : State) → P a → Yields Q (g a s)) → Yields Q (after p g)
yields_after P Q (goes_with a s) g y h = h a s y
yields_after P Q (ends_at run) g y h = tt

pub yields_giving : {A B : Type 0} (P : A → Type 0) (Q : B → Type 0) (f : A → B) → ((a : A) → P a → Q (f a)) → (p : Progress A) → Yields P p → Yields Q (giving f p)
yields_giving P Q f h (goes_with a s) y = h a y
yields_giving P Q f h (ends_at run) y = tt

pub yields_map : {A : Type 0} (P Q : A → Type 0) → ((a : A) → P a → Q a) → (p : Progress A) → Yields P p → Yields Q p
yields_map P Q h (goes_with a s) y = h a y
yields_map P Q h (ends_at run) y = tt

pub yields_any : {A : Type 0} (P : A → Type 0) → ((a : A) → P a) → (p : Progress A) → Yields P p
yields_any P h (goes_with a s) = h a
yields_any P h (ends_at run) = tt

-- kinds of scalars and vectors

pub basic_kinds : (structs : List StructDef) (ty : Ty) → IsTrue (is_basic ty) → kinds_of structs ty ≡ replicate (component_count ty) (component_kind ty)
basic_kinds structs void_type h = never h
basic_kinds structs (scalar_type kind) h = kinds-scalar structs kind
basic_kinds structs (vector_type kind size) h = kinds-vector structs kind size
basic_kinds structs (array_type element count) h = never h
basic_kinds structs (struct_type number) h = never h

pub basic_numeric : (ty : Ty) → IsTrue (is_numeric ty) → IsTrue (is_basic ty)
basic_numeric void_type h = never h
basic_numeric (scalar_type kind) h = refl
basic_numeric (vector_type kind size) h = refl
basic_numeric (array_type element count) h = never h
basic_numeric (struct_type number) h = never h

pub basic_of_kind : (kind : Kind) (ty : Ty) → IsTrue (is_of kind ty) → IsTrue (is_basic ty)
basic_of_kind kind void_type h = never h
basic_of_kind kind (scalar_type k) h = refl
basic_of_kind kind (vector_type k size) h = refl
basic_of_kind kind (array_type element count) h = never h
basic_of_kind kind (struct_type number) h = never h

-- as many words as components
pub basic_length : (structs : List StructDef) (ty : Ty) (ws : List ℕ) → IsTrue (is_basic ty) → Fits structs ty ws → length ws ≡ component_count ty
basic_length structs ty ws basic fits =
    kinds_length (kinds_of structs ty) ws fits ∙ (ap length (basic_kinds structs ty basic) ∙ length-replicate (component_count ty) (component_kind ty))

-- words of one kind

pub one_kind : (kind : Kind) (count : ℕ) (ws : List ℕ) → length ws ≡ count → Every (λ w. word_as kind w ≡ w) ws → HasKinds (replicate count kind) ws
one_kind kind zero [] e h = tt
one_kind kind zero (w ∷ ws) e h = absurd (omega (arith, e))
one_kind kind (suc count) [] e h = absurd (omega (arith, e))
one_kind kind (suc count) (w ∷ ws) e h = (h.0, one_kind kind count ws (omega (arith, e)) h.1)

pub each_of_kind : (kind : Kind) (count : ℕ) (ws : List ℕ) → HasKinds (replicate count kind) ws → Every (λ w. word_as kind w ≡ w) ws
each_of_kind kind zero [] h = tt
each_of_kind kind zero (w ∷ ws) h = absurd h
each_of_kind kind (suc count) [] h = absurd h
each_of_kind kind (suc count) (w ∷ ws) h = (h.0, each_of_kind kind count ws h.1)

-- words of a scalar or a vector
pub basic_fits : (structs : List StructDef) (ty : Ty) (ws : List ℕ) → IsTrue (is_basic ty) → length ws ≡ component_count ty → Every (λ w. word_as (component_kind ty) w ≡ w) ws → Fits structs ty ws
basic_fits structs ty ws basic e h = subst (λ k. HasKinds k ws) (sym (basic_kinds structs ty basic)) (one_kind (component_kind ty) (component_count ty) ws e h)

-- a word of a number is read as it is
number_word : (ty : Ty) → IsTrue (is_numeric ty) → (w : ℕ) → word_as (component_kind ty) w ≡ w
number_word void_type h w = never h
number_word (scalar_type BoolKind) h w = never h
number_word (scalar_type IntKind) h w = refl
number_word (scalar_type UintKind) h w = refl
number_word (vector_type BoolKind size) h w = never h
number_word (vector_type IntKind size) h w = refl
number_word (vector_type UintKind size) h w = refl
number_word (array_type element count) h w = never h
number_word (struct_type number) h w = never h

every_word : (P : ℕ → Type 0) → ((w : ℕ) → P w) → (ws : List ℕ) → Every P ws
every_word P h [] = tt
every_word P h (w ∷ ws) = (h w, every_word P h ws)

pub numbers_fit : (structs : List StructDef) (ty : Ty) (ws : List ℕ) → IsTrue (is_numeric ty) → length ws ≡ component_count ty → Fits structs ty ws
numbers_fit structs ty ws numeric e = basic_fits structs ty ws (basic_numeric ty numeric) e (every_word _ (number_word ty numeric) ws)

every_mapped : (kind : Kind) (ws : List ℕ) → Every (λ w. word_as kind w ≡ w) (map (word_as kind) ws)
every_mapped kind [] = tt
every_mapped kind (w ∷ ws) = (word_as_twice kind w, every_mapped kind ws)

-- conversions

pub converted_fits : (structs : List StructDef) (from to : Ty) (ws : List ℕ) → IsTrue (is_basic to) → length (resized from to ws) ≡ component_count to → Fits structs to (converted from to ws)
converted_fits structs from to ws basic e =
    basic_fits structs to (converted from to ws) basic (length-map (resized from to ws) (word_as (component_kind to)) ∙ e) (every_mapped (component_kind to) (resized from to ws))

-- a scalar, or a vector of at least one component
abbrev pub HasComponents : Ty → Type 0
HasComponents (scalar_type kind) = Unit {0}
HasComponents (vector_type kind size) = 1 ≤ size
HasComponents _ = ⊥

pub resized_count : (from to : Ty) (ws : List ℕ) → HasComponents from → IsTrue (is_basic to) → IsTrue (converts from to) → length ws ≡ component_count from → length (resized from to ws) ≡ component_count to
resized_count void_type to ws some basic h e = absurd some
resized_count (array_type element count) to ws some basic h e = absurd some
resized_count (struct_type number) to ws some basic h e = absurd some
resized_count (scalar_type kind) to ws some basic h e = length-replicate (component_count to) (slice_index ws 0)
resized_count (vector_type kind size) void_type ws some basic h e = never basic
resized_count (vector_type kind size) (array_type element count) ws some basic h e = never basic
resized_count (vector_type kind size) (struct_type number) ws some basic h e = never basic
resized_count (vector_type kind size) (scalar_type k) ws some basic h e = length-take 1 ws ∙ omega (arith, e, some)
resized_count (vector_type kind size) (vector_type k count) ws some basic h e = length-take count ws ∙ by_size (size == count) refl (nat_lt count size) refl h
  where
    by_size : (b : Bool) → (size == count) ≡ b → (d : Bool) → nat_lt count size ≡ d → IsTrue (is_some (if b then Some (kind_cost kind k) else (if d then Some (kind_cost kind k + 8) else None))) → min count (length ws) ≡ count
    by_size true is d less h = omega (arith, e, eqb-true size count is)
    by_size false is true less h = omega (arith, e, ltb-true count size less)
    by_size false is false less h = never h

-- operators

unary_of : (op : ℕ) (from to : Ty) → unary_type op from ≡ Some to → (from ≡ to) × (IsTrue (is_numeric from) ⊎ (IsTrue (is_among negating op) × IsTrue (is_of BoolKind from)))
unary_of op from to h = by_tests (is_among signing op && is_numeric from) refl (is_among negating op && is_of BoolKind from) refl h
  where
    holds_true : (b : Bool) → b ≡ true → IsTrue b
    holds_true b e = e

    by_tests : (a : Bool) → (is_among signing op && is_numeric from) ≡ a → (b : Bool) → (is_among negating op && is_of BoolKind from) ≡ b → (if a then Some from else (if b then Some from else None)) ≡ Some to →
        (from ≡ to) × (IsTrue (is_numeric from) ⊎ (IsTrue (is_among negating op) × IsTrue (is_of BoolKind from)))
    by_tests true is b is' h = (same_Some from to h, inl (and_right (is_among signing op) (is_numeric from) (holds_true _ is)))
    by_tests false is true is' h =
        (same_Some from to h, inr (and_left (is_among negating op) (is_of BoolKind from) (holds_true _ is'), and_right (is_among negating op) (is_of BoolKind from) (holds_true _ is')))
    by_tests false is false is' h = absurd (none-some to h)

pub truth_fits : (b : Bool) → word_as BoolKind (truth b) ≡ truth b
truth_fits true = refl
truth_fits false = refl

-- the only mark of `negating`
negating_is : (op : ℕ) → IsTrue (is_among negating op) → op ≡ 19
negating_is op h = by_test (op == 19) refl h
  where
    by_test : (b : Bool) → (op == 19) ≡ b → IsTrue (b || false) → op ≡ 19
    by_test true is h = eqb-true op 19 is
    by_test false is h = never h

negated_fits : (ws : List ℕ) → Every (λ w. word_as BoolKind w ≡ w) (map (unary_word 19) ws)
negated_fits [] = tt
negated_fits (w ∷ ws) = (truth_fits (not (holds w)), negated_fits ws)

bool_kind : (ty : Ty) → IsTrue (is_of BoolKind ty) → component_kind ty ≡ BoolKind
bool_kind void_type h = never h
bool_kind (scalar_type BoolKind) h = refl
bool_kind (scalar_type IntKind) h = never h
bool_kind (scalar_type UintKind) h = never h
bool_kind (vector_type BoolKind size) h = refl
bool_kind (vector_type IntKind size) h = never h
bool_kind (vector_type UintKind size) h = never h
bool_kind (array_type element count) h = never h
bool_kind (struct_type number) h = never h

pub unary_fits : (structs : List StructDef) (op : ℕ) (from to : Ty) (ws : List ℕ) → unary_type op from ≡ Some to → Fits structs from ws → Fits structs to (map (unary_word op) ws)
unary_fits structs op from to ws h fits = by_kind (unary_of op from to h)
  where
    by_kind : (from ≡ to) × (IsTrue (is_numeric from) ⊎ (IsTrue (is_among negating op) × IsTrue (is_of BoolKind from))) → Fits structs to (map (unary_word op) ws)
    by_kind (same, inl numeric) =
        subst (λ t. Fits structs t (map (unary_word op) ws)) same (numbers_fit structs from (map (unary_word op) ws) numeric (length-map ws (unary_word op) ∙ basic_length structs from ws (basic_numeric from numeric) fits))
    by_kind (same, inr (negates, bool)) =
        subst (λ t. Fits structs t (map (unary_word op) ws)) same
        (subst (λ o. Fits structs from (map (unary_word o) ws)) (sym (negating_is op negates))
        (basic_fits structs from (map (unary_word 19) ws) (basic_of_kind BoolKind from bool) (length-map ws (unary_word 19) ∙ basic_length structs from ws (basic_of_kind BoolKind from bool) fits)
        (subst (λ k. Every (λ w. word_as k w ≡ w) (map (unary_word 19) ws)) (sym (bool_kind from bool)) (negated_fits ws))))

-- what is computed, where there is no fault
abbrev pub OkHolds : {A : Type 0} → (A → Type 0) → Result A LaneFault → Type 0
OkHolds P (Ok a) = P a
OkHolds P (Err fault) = Unit {0}

all_ok_next : (w : ℕ) (rs : List (Result ℕ LaneFault)) (ws : List ℕ) → all_ok rs ≡ Ok ws → all_ok (Ok w ∷ rs) ≡ Ok (w ∷ ws)
all_ok_next w rs ws e = rw e

all_ok_fault : (w : ℕ) (rs : List (Result ℕ LaneFault)) (fault : LaneFault) → all_ok rs ≡ Err fault → all_ok (Ok w ∷ rs) ≡ Err fault
all_ok_fault w rs fault e = rw e

pub all_ok_holds : (P : ℕ → Type 0) (rs : List (Result ℕ LaneFault)) → Every (OkHolds P) rs → OkHolds (λ ws. Every P ws × (length ws ≡ length rs)) (all_ok rs)
all_ok_holds P [] h = (tt, refl)
all_ok_holds P (Err fault ∷ rs) h = tt
all_ok_holds P (Ok w ∷ rs) h = by_rest (all_ok rs) refl (all_ok_holds P rs h.1)
  where
    by_rest : (r : Result (List ℕ) LaneFault) → all_ok rs ≡ r → OkHolds (λ ws. Every P ws × (length ws ≡ length rs)) r → OkHolds (λ ws. Every P ws × (length ws ≡ suc (length rs))) (all_ok (Ok w ∷ rs))
    by_rest (Ok ws) is x = subst (OkHolds (λ ws. Every P ws × (length ws ≡ suc (length rs)))) (sym (all_ok_next w rs ws is)) ((h.0, x.0), ap suc x.1)
    by_rest (Err fault) is x = subst (OkHolds (λ ws. Every P ws × (length ws ≡ suc (length rs)))) (sym (all_ok_fault w rs fault is)) tt

pub length-map_2 : {A : Type 0} (f : ℕ → ℕ → A) (xs ys : List ℕ) (n : ℕ) → length xs ≡ n → length ys ≡ n → length (map_2 f xs ys) ≡ n
length-map_2 f [] [] n e e' = e
length-map_2 f [] (y ∷ ys) n e e' = absurd (omega (arith, e, e'))
length-map_2 f (x ∷ xs) [] n e e' = absurd (omega (arith, e, e'))
length-map_2 f (x ∷ xs) (y ∷ ys) zero e e' = absurd (omega (arith, e))
length-map_2 f (x ∷ xs) (y ∷ ys) (suc n) e e' = ap suc (length-map_2 f xs ys n (omega (arith, e)) (omega (arith, e')))

every_computed : (P : ℕ → Type 0) (f : ℕ → ℕ → Result ℕ LaneFault) → ((a b : ℕ) → OkHolds P (f a b)) → (xs ys : List ℕ) → Every (OkHolds P) (map_2 f xs ys)
every_computed P f h [] ys = tt
every_computed P f h (x ∷ xs) [] = tt
every_computed P f h (x ∷ xs) (y ∷ ys) = (h x y, every_computed P f h xs ys)

any_result : (r : Result ℕ LaneFault) (P : ℕ → Type 0) → ((w : ℕ) → P w) → OkHolds P r
any_result (Ok w) P h = h w
any_result (Err fault) P h = tt

pub gives_yields : {A : Type 0} (P : A → Type 0) (r : Result A LaneFault) (s : State) → OkHolds P r → Yields P (gives r s)
gives_yields P (Ok a) s h = h
gives_yields P (Err fault) s h = tt

-- a comparison, or a junction, gives truth values
abbrev pub GivesTruths : ℕ → Type 0
GivesTruths op = (kind : Kind) (a b : ℕ) → OkHolds (λ w. word_as BoolKind w ≡ w) (binary_word op kind a b)

among_cases : (op mark : ℕ) (marks : List ℕ) → IsTrue (is_among (mark ∷ marks) op) → (op ≡ mark) ⊎ IsTrue (is_among marks op)
among_cases op mark marks h = by_test (op == mark) refl h
  where
    by_test : (b : Bool) → (op == mark) ≡ b → IsTrue (b || is_among marks op) → (op ≡ mark) ⊎ IsTrue (is_among marks op)
    by_test true is h = inl (eqb-true op mark is)
    by_test false is h = inr h

-- what holds of each mark of a list holds of an operator among them
among_all : (P : ℕ → Type 0) (op : ℕ) (marks : List ℕ) → Every P marks → IsTrue (is_among marks op) → P op
among_all P op [] all h = never h
among_all P op (mark ∷ marks) all h = by_case (among_all P op marks all.1) (among_cases op mark marks h)
  where
    by_case : (IsTrue (is_among marks op) → P op) → (op ≡ mark) ⊎ IsTrue (is_among marks op) → P op
    by_case next (inl is) = subst P (sym is) all.0
    by_case next (inr among) = next among

comparing_truths : Every GivesTruths comparing
comparing_truths =
    (λ kind a b. truth_fits _, (λ kind a b. truth_fits _, (λ kind a b. truth_fits _, (λ kind a b. truth_fits _, (λ kind a b. truth_fits _, (λ kind a b. truth_fits _, tt))))))

joining_truths : Every GivesTruths joining
joining_truths = (λ kind a b. truth_fits _, (λ kind a b. truth_fits _, tt))

-- what an operator of two operands gives: numbers, or truth values
binary_of : (op : ℕ) (from to : Ty) → binary_type op from ≡ Some to →
    ((from ≡ to) × IsTrue (is_numeric from)) ⊎ ((GivesTruths op × IsTrue (is_basic from)) × (with_kind BoolKind from ≡ to))
binary_of op from to h = by_tests (is_among computing op && is_numeric from) refl (is_among comparing op && is_numeric from) refl (is_among joining op && is_of BoolKind from) refl h
  where
    holds_true : (b : Bool) → b ≡ true → IsTrue b
    holds_true b e = e

    bool_with : (ty : Ty) → IsTrue (is_of BoolKind ty) → with_kind BoolKind ty ≡ ty
    bool_with void_type h = refl
    bool_with (scalar_type BoolKind) h = refl
    bool_with (scalar_type IntKind) h = never h
    bool_with (scalar_type UintKind) h = never h
    bool_with (vector_type BoolKind size) h = refl
    bool_with (vector_type IntKind size) h = never h
    bool_with (vector_type UintKind size) h = never h
    bool_with (array_type element count) h = refl
    bool_with (struct_type number) h = refl

    by_tests : (a : Bool) → (is_among computing op && is_numeric from) ≡ a → (b : Bool) → (is_among comparing op && is_numeric from) ≡ b → (d : Bool) → (is_among joining op && is_of BoolKind from) ≡ d →
        (if a then Some from else (if b then Some (with_kind BoolKind from) else (if d then Some from else None))) ≡ Some to →
        ((from ≡ to) × IsTrue (is_numeric from)) ⊎ ((GivesTruths op × IsTrue (is_basic from)) × (with_kind BoolKind from ≡ to))
    by_tests true is b is' d is'' h = inl (same_Some from to h, and_right (is_among computing op) (is_numeric from) (holds_true _ is))
    by_tests false is true is' d is'' h =
        inr (
          (among_all GivesTruths op comparing comparing_truths (and_left (is_among comparing op) (is_numeric from) (holds_true _ is')), basic_numeric from (and_right (is_among comparing op) (is_numeric from) (holds_true _ is'))),
          same_Some (with_kind BoolKind from) to h,
        )
    by_tests false is false is' true is'' h =
        inr (
          (among_all GivesTruths op joining joining_truths (and_left (is_among joining op) (is_of BoolKind from) (holds_true _ is'')), basic_of_kind BoolKind from (and_right (is_among joining op) (is_of BoolKind from) (holds_true _ is''))),
          bool_with from (and_right (is_among joining op) (is_of BoolKind from) (holds_true _ is'')) ∙ same_Some from to h,
        )
    by_tests false is false is' false is'' h = absurd (none-some to h)

-- another kind of the same size
pub with_kind_basic : (kind : Kind) (ty : Ty) → IsTrue (is_basic ty) → IsTrue (is_basic (with_kind kind ty))
with_kind_basic kind void_type h = never h
with_kind_basic kind (scalar_type k) h = refl
with_kind_basic kind (vector_type k size) h = refl
with_kind_basic kind (array_type element count) h = never h
with_kind_basic kind (struct_type number) h = never h

pub with_kind_count : (kind : Kind) (ty : Ty) → IsTrue (is_basic ty) → component_count (with_kind kind ty) ≡ component_count ty
with_kind_count kind void_type h = never h
with_kind_count kind (scalar_type k) h = refl
with_kind_count kind (vector_type k size) h = refl
with_kind_count kind (array_type element count) h = never h
with_kind_count kind (struct_type number) h = never h

pub with_kind_kind : (kind : Kind) (ty : Ty) → IsTrue (is_basic ty) → component_kind (with_kind kind ty) ≡ kind
with_kind_kind kind void_type h = never h
with_kind_kind kind (scalar_type k) h = refl
with_kind_kind kind (vector_type k size) h = refl
with_kind_kind kind (array_type element count) h = never h
with_kind_kind kind (struct_type number) h = never h

truths_fit : (structs : List StructDef) (ty : Ty) (ws : List ℕ) → IsTrue (is_basic ty) → length ws ≡ component_count ty → Every (λ w. word_as BoolKind w ≡ w) ws → Fits structs (with_kind BoolKind ty) ws
truths_fit structs ty ws basic e h =
    basic_fits structs (with_kind BoolKind ty) ws (with_kind_basic BoolKind ty basic) (e ∙ sym (with_kind_count BoolKind ty basic)) (subst (λ k. Every (λ w. word_as k w ≡ w) ws) (sym (with_kind_kind BoolKind ty basic)) h)

ok_map : {A : Type 0} (P Q : A → Type 0) → ((a : A) → P a → Q a) → (r : Result A LaneFault) → OkHolds P r → OkHolds Q r
ok_map P Q f (Ok a) h = f a h
ok_map P Q f (Err fault) h = tt

pub binary_fits : (structs : List StructDef) (op : ℕ) (from to : Ty) (left right : List ℕ) → binary_type op from ≡ Some to → Fits structs from left → Fits structs from right →
    OkHolds (Fits structs to) (binary_words op (component_kind from) left right)
binary_fits structs op from to left right h fits others = by_kind (binary_of op from to h)
  where
    by_kind : ((from ≡ to) × IsTrue (is_numeric from)) ⊎ ((GivesTruths op × IsTrue (is_basic from)) × (with_kind BoolKind from ≡ to)) → OkHolds (Fits structs to) (binary_words op (component_kind from) left right)
    by_kind (inl (same, numeric)) =
        let long = length-map_2 (binary_word op (component_kind from)) left right (component_count from) (basic_length structs from left (basic_numeric from numeric) fits) (basic_length structs from right (basic_numeric from numeric) others) in
        ok_map (λ ws. Every (λ w. Unit {0}) ws × (length ws ≡ length (map_2 (binary_word op (component_kind from)) left right))) (Fits structs to)
        (λ ws x. subst (λ t. Fits structs t ws) same (numbers_fit structs from ws numeric (x.1 ∙ long))) (binary_words op (component_kind from) left right)
        (all_ok_holds (λ w. Unit {0}) (map_2 (binary_word op (component_kind from)) left right) (every_computed (λ w. Unit {0}) (binary_word op (component_kind from)) (λ a b. any_result (binary_word op (component_kind from) a b) (λ w. Unit {0}) (λ w. tt)) left right))
    by_kind (inr (truths, same)) =
        let long = length-map_2 (binary_word op (component_kind from)) left right (component_count from) (basic_length structs from left truths.1 fits) (basic_length structs from right truths.1 others) in
        ok_map (λ ws. Every (λ w. word_as BoolKind w ≡ w) ws × (length ws ≡ length (map_2 (binary_word op (component_kind from)) left right))) (Fits structs to)
        (λ ws x. subst (λ t. Fits structs t ws) same (truths_fit structs from ws truths.1 (x.1 ∙ long) x.0)) (binary_words op (component_kind from) left right)
        (all_ok_holds (λ w. word_as BoolKind w ≡ w) (map_2 (binary_word op (component_kind from)) left right) (every_computed (λ w. word_as BoolKind w ≡ w) (binary_word op (component_kind from)) (truths.0 (component_kind from)) left right))

-- `?:`
chosen_kinds : (kinds : List Kind) (truths ws others : List ℕ) → length truths ≡ length kinds → HasKinds kinds ws → HasKinds kinds others → HasKinds kinds (map_3 chosen_word truths ws others)
chosen_kinds [] [] [] [] e h h' = tt
chosen_kinds [] [] [] (o ∷ others) e h h' = absurd h'
chosen_kinds [] [] (w ∷ ws) others e h h' = absurd h
chosen_kinds [] (t ∷ truths) ws others e h h' = absurd (omega (arith, e))
chosen_kinds (kind ∷ kinds) [] ws others e h h' = absurd (omega (arith, e))
chosen_kinds (kind ∷ kinds) (t ∷ truths) [] others e h h' = absurd h
chosen_kinds (kind ∷ kinds) (t ∷ truths) (w ∷ ws) [] e h h' = absurd h'
chosen_kinds (kind ∷ kinds) (t ∷ truths) (w ∷ ws) (o ∷ others) e h h' = (by_truth (holds t), chosen_kinds kinds truths ws others (omega (arith, e)) h.1 h'.1)
  where
    by_truth : (b : Bool) → word_as kind (if b then w else o) ≡ (if b then w else o)
    by_truth true = h.0
    by_truth false = h'.0

pub chosen_fits : (structs : List StructDef) (ty : Ty) (truths ws others : List ℕ) → IsTrue (is_basic ty) → Fits structs (with_kind BoolKind ty) truths → Fits structs ty ws → Fits structs ty others →
    Fits structs ty (map_3 chosen_word truths ws others)
chosen_fits structs ty truths ws others basic fits fits' fits'' =
    chosen_kinds (kinds_of structs ty) truths ws others
    (basic_length structs (with_kind BoolKind ty) truths (with_kind_basic BoolKind ty basic) fits ∙ (with_kind_count BoolKind ty basic ∙
    sym (ap length (basic_kinds structs ty basic) ∙ length-replicate (component_count ty) (component_kind ty)))) fits' fits''

-- values of types, in order
abbrev pub FitTypes : List StructDef → List Ty → List (List ℕ) → Type 0
FitTypes structs [] [] = Unit {0}
FitTypes structs (ty ∷ types) (ws ∷ words) = Fits structs ty ws × FitTypes structs types words
FitTypes structs _ _ = ⊥

pub kinds_append : (xs ys : List Kind) (us vs : List ℕ) → HasKinds xs us → HasKinds ys vs → HasKinds (xs ++ ys) (us ++ vs)
kinds_append [] ys [] vs h h' = h'
kinds_append [] ys (u ∷ us) vs h h' = absurd h
kinds_append (x ∷ xs) ys [] vs h h' = absurd h
kinds_append (x ∷ xs) ys (u ∷ us) vs h h' = (h.0, kinds_append xs ys us vs h.1 h')

replicate_add : (m n : ℕ) (kind : Kind) → replicate m kind ++ replicate n kind ≡ replicate (m + n) kind
replicate_add zero n kind = ap (λ k. replicate k kind) (nothing_add n)
  where
    nothing_add : (n : ℕ) → n ≡ 0 + n
    nothing_add n = omega arith
replicate_add (suc m) n kind = ap (λ k. kind ∷ k) (replicate_add m n kind) ∙ ap (λ k. replicate k kind) (suc_out m n)
  where
    suc_out : (m n : ℕ) → suc (m + n) ≡ suc m + n
    suc_out m n = omega arith

same_kind : (kind other : Kind) → IsTrue (kind_eq kind other) → other ≡ kind
same_kind BoolKind BoolKind h = refl
same_kind BoolKind IntKind h = never h
same_kind BoolKind UintKind h = never h
same_kind IntKind BoolKind h = never h
same_kind IntKind IntKind h = refl
same_kind IntKind UintKind h = never h
same_kind UintKind BoolKind h = never h
same_kind UintKind IntKind h = never h
same_kind UintKind UintKind h = refl

-- parts that are alike have components of one kind
alike_kind : (ty other : Ty) → IsTrue (is_basic ty) → IsTrue (is_alike ty other) → IsTrue (is_basic other) × (component_kind other ≡ component_kind ty)
alike_kind void_type other basic h = never basic
alike_kind (array_type element count) other basic h = never basic
alike_kind (struct_type number) other basic h = never basic
alike_kind (scalar_type kind) other basic h = of_kind kind other h
  where
    of_kind : (kind : Kind) (other : Ty) → IsTrue (is_of kind other) → IsTrue (is_basic other) × (component_kind other ≡ kind)
    of_kind kind void_type h = never h
    of_kind kind (scalar_type k) h = (refl, same_kind kind k h)
    of_kind kind (vector_type k size) h = (refl, same_kind kind k h)
    of_kind kind (array_type element count) h = never h
    of_kind kind (struct_type number) h = never h
alike_kind (vector_type kind size) other basic h = of_kind kind other h
  where
    of_kind : (kind : Kind) (other : Ty) → IsTrue (is_of kind other) → IsTrue (is_basic other) × (component_kind other ≡ kind)
    of_kind kind void_type h = never h
    of_kind kind (scalar_type k) h = (refl, same_kind kind k h)
    of_kind kind (vector_type k size) h = (refl, same_kind kind k h)
    of_kind kind (array_type element count) h = never h
    of_kind kind (struct_type number) h = never h

built_kinds : (structs : List StructDef) (ty : Ty) (types : List Ty) (words : List (List ℕ)) → IsTrue (is_basic ty) → IsTrue (list_all (is_alike ty) types) → FitTypes structs types words →
    HasKinds (replicate (sum_by component_count types) (component_kind ty)) (concat words)
built_kinds structs ty [] [] basic alike h = tt
built_kinds structs ty [] (ws ∷ words) basic alike h = absurd h
built_kinds structs ty (t ∷ types) [] basic alike h = absurd h
built_kinds structs ty (t ∷ types) (ws ∷ words) basic alike h =
    let same = alike_kind ty t basic (and_left (is_alike ty t) (list_all (is_alike ty) types) alike) in
    let first = subst (λ k. HasKinds k ws) (basic_kinds structs t same.0 ∙ ap (replicate (component_count t)) same.1) h.0 in
    subst (λ k. HasKinds k (ws ++ concat words)) (replicate_add (component_count t) (sum_by component_count types) (component_kind ty) ∙ ap (λ n. replicate n (component_kind ty)) (sym (sum_by-cons component_count t types)))
    (kinds_append (replicate (component_count t) (component_kind ty)) (replicate (sum_by component_count types) (component_kind ty)) ws (concat words) first
    (built_kinds structs ty types words basic (and_right (is_alike ty t) (list_all (is_alike ty) types) alike) h.1))

scalars_kinds : (structs : List StructDef) (kinds : List Kind) (words : List (List ℕ)) → FitTypes structs (map scalar_type kinds) words → HasKinds kinds (concat words)
scalars_kinds structs [] [] h = tt
scalars_kinds structs [] (ws ∷ words) h = absurd h
scalars_kinds structs (kind ∷ kinds) [] h = absurd h
scalars_kinds structs (kind ∷ kinds) (ws ∷ words) h =
    kinds_append (kind ∷ []) kinds ws (concat words) (subst (λ k. HasKinds k ws) (kinds-scalar structs kind) h.0) (scalars_kinds structs kinds words h.1)

pub built_fits : (structs : List StructDef) (ty : Ty) (types : List Ty) (words : List (List ℕ)) → Builds structs ty types → FitTypes structs types words → Fits structs ty (concat words)
built_fits structs void_type types words h fits = absurd h
built_fits structs (scalar_type kind) types words h fits =
    subst (λ k. HasKinds k (concat words)) (ap (λ n. replicate n kind) h.1 ∙ sym (basic_kinds structs (scalar_type kind) refl)) (built_kinds structs (scalar_type kind) types words refl h.0 fits)
built_fits structs (vector_type kind size) types words h fits =
    subst (λ k. HasKinds k (concat words)) (ap (λ n. replicate n kind) h.1 ∙ sym (basic_kinds structs (vector_type kind size) refl)) (built_kinds structs (vector_type kind size) types words refl h.0 fits)
built_fits structs (array_type element count) types words h fits =
    scalars_kinds structs (kinds_of structs (array_type element count)) words (subst (λ t. FitTypes structs t words) h fits)
built_fits structs (struct_type number) types words h fits =
    scalars_kinds structs (kinds_of structs (struct_type number)) words (subst (λ t. FitTypes structs t words) h fits)

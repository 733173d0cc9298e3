-- What intrinsic functions give has the words of its type.
use Rattle.std.proofs.Common.{◌≡◌, ◌∙◌, refl, sym, ap, subst, ℕ, zero, suc, List, [], ◌∷◌, map, length, Option, None, Some, slice_get, unwrap_or, option_map, arith}
use Rattle.std.specs.Prelude.{IsTrue, slice_index}
use Rattle.std.proofs.lemmas.List.{length-map}
use Rattle.lane_core.specs.declared.event.Event.TheVariants.{Barrier as BarrierEvent, Wave}
use Rattle.lane_core.specs.declared.event.WaveKind.{WaveKind}
use Rattle.hl_meaning.specs.declared.ty.Kind.{Kind}
use Rattle.hl_meaning.specs.declared.ty.Kind.TheVariants.{Bool as BoolKind, Int as IntKind, Uint as UintKind}
use Rattle.hl_meaning.specs.declared.intrinsic.Signature.{Signature}
use Rattle.hl_meaning.specs.declared.intrinsic.Signature.TheVariants.{Numbers, Uints, Truths, Bits, Atomic, Barrier, LaneTruth, LaneNumber, Vote, Ballot, AllEqual, ReadLaneAt, ReadLaneFirst, CountTruths}
use Rattle.hl_meaning.specs.Types.{Ty, array_type, bool_type, component_count, is_basic, is_numeric, is_of, scalar_type, struct_type, uint_type, vector_type, void_type, with_kind}
use Rattle.hl_meaning.specs.Intrinsics.{HasSignature, HasSignatureOf, Intrinsic, TakesAndGives, intrinsics}
use Rattle.hl_meaning.specs.Programs.{StructDef}
use Rattle.lane_core.specs.Words.{truth, wrapped}
use Rattle.hl_source.specs.Operations.{component_kind, map_2, map_3, word_as}
use Rattle.hl_source.specs.State.{Context, Progress, State, asks, asks_word, each}
use Rattle.lane_core.specs.Replies.{reply_words}
use Rattle.hl_source.specs.Intrinsics.{Work, barrier, from_all, from_one, from_three, from_two, of_lane, own_form, wave, wave_alone, wave_at, wave_four, wave_word, wave_words, work_of, worked, works}
use Rattle.typed_laws.proofs.Induction.{Every}
use Rattle.typed_laws.specs.Fitting.{Fits, HasKinds, Yields}
use Rattle.typed_laws.proofs.Fitting.{word_as_twice}
use Rattle.typed_laws.proofs.KindParts.{kinds-void}
use Rattle.typed_laws.proofs.Typed.{never}
use Rattle.typed_laws.proofs.ValueFits.{FitTypes, basic_fits, basic_length, basic_numeric, basic_of_kind, length-map_2, numbers_fit, truth_fits, with_kind_basic, with_kind_count, yields_after, yields_any, yields_giving, yields_map}

-- what a function with a signature may do
abbrev pub Suits : Signature → Work → Type 0
Suits (Numbers (suc zero)) (from_one f) = Unit {0}
Suits (Numbers (suc zero)) (wave kind) = Unit {0}
Suits (Numbers (suc (suc zero))) (from_two f) = Unit {0}
Suits (Numbers (suc (suc (suc zero)))) (from_three f) = Unit {0}
Suits Uints (from_one f) = Unit {0}
Suits Uints (wave kind) = Unit {0}
Suits Truths (from_all judge) = Unit {0}
Suits (Bits IntKind) (from_one f) = Unit {0}
Suits (Bits UintKind) (from_one f) = Unit {0}
Suits Atomic own_form = Unit {0}
Suits Barrier (barrier mode) = Unit {0}
Suits LaneTruth (wave_alone kind) = Unit {0}
Suits LaneNumber (of_lane tell) = Unit {0}
Suits Vote (wave kind) = Unit {0}
Suits Ballot (wave_four kind) = Unit {0}
Suits AllEqual (wave kind) = Unit {0}
Suits ReadLaneAt (wave_at kind) = Unit {0}
Suits ReadLaneFirst (wave kind) = Unit {0}
Suits CountTruths (wave kind) = Unit {0}
Suits _ _ = ⊥

abbrev pub AllSuit : List Intrinsic → List Work → Type 0
AllSuit [] [] = Unit {0}
AllSuit (r ∷ rows) (w ∷ works) = Suits r.signature w × AllSuit rows works
AllSuit _ _ = ⊥

all_suit : AllSuit intrinsics works
all_suit = (tt, (tt, (tt, (tt, (tt, (tt, (tt, (tt, (tt, (tt, (tt, (tt, (tt, (tt, (tt, (tt, (tt, (tt, (tt, (tt, (tt, (tt, (tt, (tt, (tt, (tt, (tt, (tt, (tt, (tt, (tt, (tt, (tt, (tt, (tt, (tt, (tt, (tt, (tt, (tt, (tt, (tt, (tt, (tt, (tt, (tt, tt))))))))))))))))))))))))))))))))))))))))))))))

abbrev pub SuitsAt : Option Intrinsic → Option Work → Type 0
SuitsAt None None = Unit {0}
SuitsAt (Some r) (Some w) = Suits r.signature w
SuitsAt _ _ = ⊥

suits_at : (rows : List Intrinsic) (ws : List Work) (number : ℕ) → AllSuit rows ws → SuitsAt (slice_get rows number) (slice_get ws number)
suits_at [] [] number h = tt
suits_at [] (w ∷ ws) number h = absurd h
suits_at (r ∷ rows) [] number h = absurd h
suits_at (r ∷ rows) (w ∷ ws) zero h = h.0
suits_at (r ∷ rows) (w ∷ ws) (suc number) h = suits_at rows ws number h.1

pub nothing_fits : (structs : List StructDef) → Fits structs void_type []
nothing_fits structs = subst (λ k. HasKinds k []) (sym (kinds-void structs)) tt

-- waves

each_kind : (kind : Kind) (part : ℕ → State → Progress ℕ) → ((x : ℕ) (s : State) → Yields (λ w. word_as kind w ≡ w) (part x s)) → (xs : List ℕ) (s : State) →
    Yields (λ ws. (length ws ≡ length xs) × Every (λ w. word_as kind w ≡ w) ws) (each part xs s)
each_kind kind part h [] s = (refl, tt)
each_kind kind part h (x ∷ xs) s =
    yields_after (λ w. word_as kind w ≡ w) (λ ws. (length ws ≡ suc (length xs)) × Every (λ w. word_as kind w ≡ w) ws) (part x s) _ (h x s) (λ w s1 is.
    yields_giving (λ ws. (length ws ≡ length xs) × Every (λ w. word_as kind w ≡ w) ws) (λ ws. (length ws ≡ suc (length xs)) × Every (λ w. word_as kind w ≡ w) ws) (λ ws. w ∷ ws)
    (λ ws r. (ap suc r.0, (is, r.1))) (each part xs s1) (each_kind kind part h xs s1))

wave_fits : (structs : List StructDef) (kind : WaveKind) (lane : ℕ) (ty : Ty) (xs : List ℕ) (s : State) → IsTrue (is_basic ty) → length xs ≡ component_count ty →
    Yields (Fits structs ty) (wave_words kind lane (component_kind ty) xs s)
wave_fits structs kind lane ty xs s basic e =
    yields_map (λ ws. (length ws ≡ length xs) × Every (λ w. word_as (component_kind ty) w ≡ w) ws) (Fits structs ty) (λ ws r. basic_fits structs ty ws basic (r.0 ∙ e) r.1) (wave_words kind lane (component_kind ty) xs s)
    (each_kind (component_kind ty) (wave_word kind lane (component_kind ty))
    (λ x s1. yields_giving (λ w. Unit {0}) (λ w. word_as (component_kind ty) w ≡ w) (word_as (component_kind ty)) (λ w h. word_as_twice (component_kind ty) w) (asks_word (Wave kind x lane) s1)
    (yields_any (λ w. Unit {0}) (λ w. tt) (asks_word (Wave kind x lane) s1))) xs s)

length-three : (f : ℕ → ℕ → ℕ → ℕ) (xs ys zs : List ℕ) (n : ℕ) → length xs ≡ n → length ys ≡ n → length zs ≡ n → length (map_3 f xs ys zs) ≡ n
length-three f [] [] [] n e e' e'' = e
length-three f [] [] (z ∷ zs) n e e' e'' = absurd (omega (arith, e, e''))
length-three f [] (y ∷ ys) zs n e e' e'' = absurd (omega (arith, e, e'))
length-three f (x ∷ xs) [] zs n e e' e'' = absurd (omega (arith, e, e'))
length-three f (x ∷ xs) (y ∷ ys) [] n e e' e'' = absurd (omega (arith, e, e''))
length-three f (x ∷ xs) (y ∷ ys) (z ∷ zs) zero e e' e'' = absurd (omega (arith, e))
length-three f (x ∷ xs) (y ∷ ys) (z ∷ zs) (suc n) e e' e'' = ap suc (length-three f xs ys zs n (omega (arith, e)) (omega (arith, e')) (omega (arith, e'')))

-- the words of arguments whose types are known

fit_none : (structs : List StructDef) (words : List (List ℕ)) → FitTypes structs [] words → words ≡ []
fit_none structs [] h = refl
fit_none structs (ws ∷ words) h = absurd h

fit_one : (structs : List StructDef) (a : Ty) (words : List (List ℕ)) → FitTypes structs (a ∷ []) words → (x : List ℕ) × (words ≡ x ∷ []) × Fits structs a x
fit_one structs a [] h = absurd h
fit_one structs a (x ∷ []) h = (x, refl, h.0)
fit_one structs a (x ∷ y ∷ words) h = absurd h.1

fit_two : (structs : List StructDef) (a b : Ty) (words : List (List ℕ)) → FitTypes structs (a ∷ b ∷ []) words → (x : List ℕ) × (y : List ℕ) × (words ≡ x ∷ y ∷ []) × Fits structs a x × Fits structs b y
fit_two structs a b [] h = absurd h
fit_two structs a b (x ∷ words) h = let rest = fit_one structs b words h.1 in (x, rest.0, ap (λ l. x ∷ l) rest.1, h.0, rest.2)

fit_three : (structs : List StructDef) (a b d : Ty) (words : List (List ℕ)) → FitTypes structs (a ∷ b ∷ d ∷ []) words →
    (x : List ℕ) × (y : List ℕ) × (z : List ℕ) × (words ≡ x ∷ y ∷ z ∷ []) × Fits structs a x × Fits structs b y × Fits structs d z
fit_three structs a b d [] h = absurd h
fit_three structs a b d (x ∷ words) h = let rest = fit_two structs b d words h.1 in (x, rest.0, rest.1, ap (λ l. x ∷ l) rest.2, h.0, rest.3, rest.4)

-- a number from so many numbers of the same type
number_one : (structs : List StructDef) (c : Context) (f : Kind → ℕ → ℕ) (ty from : Ty) (words : List (List ℕ)) (s : State) → IsTrue (is_numeric ty) → IsTrue (is_basic from) → component_count from ≡ component_count ty → FitTypes structs (from ∷ []) words →
    Yields (Fits structs ty) (worked c (from_one f) ty words s)
number_one structs c f ty from words s numeric basic same h =
    let one = fit_one structs from words h in
    subst (λ l. Yields (Fits structs ty) (worked c (from_one f) ty l s)) (sym one.1)
    (numbers_fit structs ty (map (f (component_kind ty)) one.0) numeric (length-map one.0 (f (component_kind ty)) ∙ (basic_length structs from one.0 basic one.2 ∙ same)))

wave_one : (structs : List StructDef) (c : Context) (kind : Kind → WaveKind) (ty from : Ty) (words : List (List ℕ)) (s : State) → IsTrue (is_basic ty) → IsTrue (is_basic from) → component_count from ≡ component_count ty → FitTypes structs (from ∷ []) words →
    Yields (Fits structs ty) (worked c (wave kind) ty words s)
wave_one structs c kind ty from words s basic basic' same h =
    let one = fit_one structs from words h in
    subst (λ l. Yields (Fits structs ty) (worked c (wave kind) ty l s)) (sym one.1)
    (wave_fits structs (kind (component_kind ty)) 0 ty one.0 s basic (basic_length structs from one.0 basic' one.2 ∙ same))

bits_numeric : (kind : Kind) (x : Ty) → IsTrue (is_numeric (scalar_type kind)) → IsTrue (is_basic x) → IsTrue (is_numeric (with_kind kind x))
bits_numeric kind void_type h basic = never basic
bits_numeric kind (scalar_type k) h basic = h
bits_numeric kind (vector_type k size) h basic = h
bits_numeric kind (array_type element count) h basic = never basic
bits_numeric kind (struct_type number) h basic = never basic

uint_numeric : (ty : Ty) → IsTrue (is_of UintKind ty) → IsTrue (is_numeric ty)
uint_numeric void_type h = never h
uint_numeric (scalar_type BoolKind) h = never h
uint_numeric (scalar_type IntKind) h = never h
uint_numeric (scalar_type UintKind) h = refl
uint_numeric (vector_type BoolKind size) h = never h
uint_numeric (vector_type IntKind size) h = never h
uint_numeric (vector_type UintKind size) h = refl
uint_numeric (array_type element count) h = never h
uint_numeric (struct_type number) h = never h

-- what is done by a signature has the type that it gives
work_fits : (structs : List StructDef) (c : Context) (signature : Signature) (work : Work) → Suits signature work → (types : List Ty) (ty : Ty) → HasSignature signature types ty → (words : List (List ℕ)) (s : State) →
    FitTypes structs types words → Yields (Fits structs ty) (worked c work ty words s)
work_fits structs c (Numbers (suc zero)) (from_one f) suits types ty h words s fits =
    number_one structs c f ty ty words s h.1 (basic_numeric ty h.1) refl (subst (λ t. FitTypes structs t words) h.0 fits)
work_fits structs c (Numbers (suc zero)) (wave kind) suits types ty h words s fits =
    wave_one structs c kind ty ty words s (basic_numeric ty h.1) (basic_numeric ty h.1) refl (subst (λ t. FitTypes structs t words) h.0 fits)
work_fits structs c (Numbers (suc (suc zero))) (from_two f) suits types ty h words s fits =
    let two = fit_two structs ty ty words (subst (λ t. FitTypes structs t words) h.0 fits) in
    subst (λ l. Yields (Fits structs ty) (worked c (from_two f) ty l s)) (sym two.2)
    (numbers_fit structs ty (map_2 (f (component_kind ty)) two.0 two.1) h.1
    (length-map_2 (f (component_kind ty)) two.0 two.1 (component_count ty) (basic_length structs ty two.0 (basic_numeric ty h.1) two.3) (basic_length structs ty two.1 (basic_numeric ty h.1) two.4)))
work_fits structs c (Numbers (suc (suc (suc zero)))) (from_three f) suits types ty h words s fits =
    let three = fit_three structs ty ty ty words (subst (λ t. FitTypes structs t words) h.0 fits) in
    subst (λ l. Yields (Fits structs ty) (worked c (from_three f) ty l s)) (sym three.3)
    (numbers_fit structs ty (map_3 (f (component_kind ty)) three.0 three.1 three.2) h.1
    (length-three (f (component_kind ty)) three.0 three.1 three.2 (component_count ty) (basic_length structs ty three.0 (basic_numeric ty h.1) three.4) (basic_length structs ty three.1 (basic_numeric ty h.1) three.5)
    (basic_length structs ty three.2 (basic_numeric ty h.1) three.6)))
work_fits structs c Uints (from_one f) suits types ty h words s fits =
    number_one structs c f ty ty words s (uint_numeric ty h.1) (basic_of_kind UintKind ty h.1) refl (subst (λ t. FitTypes structs t words) h.0 fits)
work_fits structs c Uints (wave kind) suits types ty h words s fits =
    wave_one structs c kind ty ty words s (basic_of_kind UintKind ty h.1) (basic_of_kind UintKind ty h.1) refl (subst (λ t. FitTypes structs t words) h.0 fits)
work_fits structs c Truths (from_all judge) suits [] ty h words s fits = absurd h
work_fits structs c Truths (from_all judge) suits (x ∷ []) ty h words s fits =
    let one = fit_one structs x words fits in
    subst (λ l. Yields (Fits structs ty) (worked c (from_all judge) ty l s)) (sym one.1)
    (subst (λ t. Fits structs t (truth (judge one.0) ∷ [])) (sym h.1) (basic_fits structs bool_type (truth (judge one.0) ∷ []) refl refl (truth_fits (judge one.0), tt)))
work_fits structs c Truths (from_all judge) suits (x ∷ y ∷ types) ty h words s fits = absurd h
work_fits structs c (Bits IntKind) (from_one f) suits [] ty h words s fits = absurd h
work_fits structs c (Bits IntKind) (from_one f) suits (x ∷ []) ty h words s fits =
    subst (λ t. Yields (Fits structs t) (worked c (from_one f) t words s)) (sym h.1)
    (number_one structs c f (with_kind IntKind x) x words s (bits_numeric IntKind x refl (basic_numeric x h.0)) (basic_numeric x h.0) (sym (with_kind_count IntKind x (basic_numeric x h.0))) fits)
work_fits structs c (Bits IntKind) (from_one f) suits (x ∷ y ∷ types) ty h words s fits = absurd h
work_fits structs c (Bits UintKind) (from_one f) suits [] ty h words s fits = absurd h
work_fits structs c (Bits UintKind) (from_one f) suits (x ∷ []) ty h words s fits =
    subst (λ t. Yields (Fits structs t) (worked c (from_one f) t words s)) (sym h.1)
    (number_one structs c f (with_kind UintKind x) x words s (bits_numeric UintKind x refl (basic_numeric x h.0)) (basic_numeric x h.0) (sym (with_kind_count UintKind x (basic_numeric x h.0))) fits)
work_fits structs c (Bits UintKind) (from_one f) suits (x ∷ y ∷ types) ty h words s fits = absurd h
work_fits structs c Atomic own_form suits types ty h words s fits = absurd h
work_fits structs c Barrier (barrier mode) suits types ty h words s fits =
    let none = fit_none structs words (subst (λ t. FitTypes structs t words) h.0 fits) in
    subst (λ l. Yields (Fits structs ty) (worked c (barrier mode) ty l s)) (sym none)
    (yields_giving (λ r. Unit {0}) (Fits structs ty) (λ r. []) (λ r x. subst (λ t. Fits structs t []) (sym h.1) (nothing_fits structs)) (asks (BarrierEvent mode) s) (yields_any (λ r. Unit {0}) (λ r. tt) (asks (BarrierEvent mode) s)))
work_fits structs c LaneTruth (wave_alone kind) suits types ty h words s fits =
    let none = fit_none structs words (subst (λ t. FitTypes structs t words) h.0 fits) in
    subst (λ t. Yields (Fits structs t) (worked c (wave_alone kind) t words s)) (sym h.1)
    (subst (λ l. Yields (Fits structs bool_type) (worked c (wave_alone kind) bool_type l s)) (sym none) (wave_fits structs kind 0 bool_type (0 ∷ []) s refl refl))
work_fits structs c LaneNumber (of_lane tell) suits types ty h words s fits =
    let none = fit_none structs words (subst (λ t. FitTypes structs t words) h.0 fits) in
    subst (λ t. Yields (Fits structs t) (worked c (of_lane tell) t words s)) (sym h.1)
    (subst (λ l. Yields (Fits structs uint_type) (worked c (of_lane tell) uint_type l s)) (sym none) (numbers_fit structs uint_type (wrapped (tell c.lane) ∷ []) refl refl))
work_fits structs c Vote (wave kind) suits types ty h words s fits =
    subst (λ t. Yields (Fits structs t) (worked c (wave kind) t words s)) (sym h.1)
    (wave_one structs c kind bool_type bool_type words s refl refl refl (subst (λ t. FitTypes structs t words) h.0 fits))
work_fits structs c Ballot (wave_four kind) suits types ty h words s fits =
    let one = fit_one structs bool_type words (subst (λ t. FitTypes structs t words) h.0 fits) in
    subst (λ t. Yields (Fits structs t) (worked c (wave_four kind) t words s)) (sym h.1)
    (subst (λ l. Yields (Fits structs (vector_type UintKind 4)) (worked c (wave_four kind) (vector_type UintKind 4) l s)) (sym one.1)
    (yields_giving (λ r. Unit {0}) (Fits structs (vector_type UintKind 4)) (reply_words 4) (λ r x. numbers_fit structs (vector_type UintKind 4) (reply_words 4 r) refl refl) (asks (Wave kind (slice_index one.0 0) 0) s)
    (yields_any (λ r. Unit {0}) (λ r. tt) (asks (Wave kind (slice_index one.0 0) 0) s))))
work_fits structs c AllEqual (wave kind) suits [] ty h words s fits = absurd h
work_fits structs c AllEqual (wave kind) suits (x ∷ []) ty h words s fits =
    subst (λ t. Yields (Fits structs t) (worked c (wave kind) t words s)) (sym h.1)
    (wave_one structs c kind (with_kind BoolKind x) x words s (with_kind_basic BoolKind x h.0) h.0 (sym (with_kind_count BoolKind x h.0)) fits)
work_fits structs c AllEqual (wave kind) suits (x ∷ y ∷ types) ty h words s fits = absurd h
work_fits structs c ReadLaneAt (wave_at kind) suits types ty h words s fits =
    let two = fit_two structs ty uint_type words (subst (λ t. FitTypes structs t words) h.0 fits) in
    subst (λ l. Yields (Fits structs ty) (worked c (wave_at kind) ty l s)) (sym two.2) (wave_fits structs kind (slice_index two.1 0) ty two.0 s h.1 (basic_length structs ty two.0 h.1 two.3))
work_fits structs c ReadLaneFirst (wave kind) suits types ty h words s fits =
    wave_one structs c kind ty ty words s h.1 h.1 refl (subst (λ t. FitTypes structs t words) h.0 fits)
work_fits structs c CountTruths (wave kind) suits [] ty h words s fits = absurd h
work_fits structs c CountTruths (wave kind) suits (x ∷ []) ty h words s fits =
    let basic = basic_of_kind BoolKind x h.0 in
    subst (λ t. Yields (Fits structs t) (worked c (wave kind) t words s)) (sym h.1)
    (wave_one structs c kind (with_kind UintKind x) x words s (with_kind_basic UintKind x basic) basic (sym (with_kind_count UintKind x basic)) fits)
work_fits structs c CountTruths (wave kind) suits (x ∷ y ∷ types) ty h words s fits = absurd h
work_fits structs c signature work suits types ty h words s fits = absurd suits

-- an intrinsic function gives words of the type that it gives
pub intrinsic_fits : (structs : List StructDef) (c : Context) (number : ℕ) (types : List Ty) (ty : Ty) (words : List (List ℕ)) (s : State) → TakesAndGives number types ty → FitTypes structs types words →
    Yields (Fits structs ty) (worked c (work_of number) ty words s)
intrinsic_fits structs c number types ty words s h fits = by_row (slice_get intrinsics number) (slice_get works number) (suits_at intrinsics works number all_suit) h
  where
    by_row : (o : Option Intrinsic) (w : Option Work) → SuitsAt o w → HasSignatureOf (option_map (λ r. r.signature) o) types ty → Yields (Fits structs ty) (worked c (unwrap_or w own_form) ty words s)
    by_row None None suits h = absurd h
    by_row None (Some w) suits h = absurd suits
    by_row (Some r) None suits h = absurd suits
    by_row (Some r) (Some w) suits h = work_fits structs c r.signature w suits types ty h words s fits

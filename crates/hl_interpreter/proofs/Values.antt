-- Values by component, as loops make them.
use Rattle.std.proofs.Common.{◌≡◌, ◌⊎◌, inl, inr, ◌∙◌, refl, sym, ap, ℕ, ◌+◌, ◌<◌, ◌≤◌, ◌==◌, false, min, if◌then◌else◌, List, [], ◌∷◌, ◌++◌, append-nil, append_assoc, drop, get_or, length, map, replicate, slice_index, take, Result, Ok, Err, arith}
use Rattle.std.proofs.lemmas.Bool.{cases_lt, false≢true}
use Rattle.lane_core.specs.declared.event.LaneFault.{LaneFault}
use Rattle.hl_meaning.specs.declared.ty.Kind.{Kind}
use Rattle.hl_meaning.specs.declared.ty.HlType.{HlType}
use Rattle.hl_meaning.specs.declared.ty.HlType.TheVariants.{Scalar}
use Rattle.hl_meaning.specs.Types.{component_count}
use Rattle.hl_meaning.specs.Views.{plain_ty}
use Rattle.hl_meaning.proofs.Plain.{plain_ty-Scalar}
use Rattle.hl_source.specs.Operations.{all_ok, map_2, map_3, picked, resized}
use Rattle.hl_interpreter.proofs.HeldTypes.{is_scalar-other}
use Rattle.hl_interpreter.proofs.Turns.{drop-next, map-turn, map_2-end, map_2-over, map_2-turn, map_3-end, map_3-last, map_3-over, map_3-turn}

-- ---- types of values

pub resized-scalar : (from to : HlType) (kind : Kind) (words : List ℕ) → from ≡ Scalar kind → resized (plain_ty from) (plain_ty to) words ≡ replicate (component_count (plain_ty to)) (slice_index words 0)
resized-scalar from to kind words is =
    ap (λ ty. resized ty (plain_ty to) words) (ap plain_ty is ∙ plain_ty-Scalar kind)

pub resized-other : (from to : HlType) (words : List ℕ) → ((k : Kind) → from ≡ Scalar k → ⊥) → resized (plain_ty from) (plain_ty to) words ≡ take (component_count (plain_ty to)) words
resized-other from to words not =
    ap (λ b. if b then replicate (component_count (plain_ty to)) (slice_index words 0) else take (component_count (plain_ty to)) words) (is_scalar-other from not)

-- ---- a word that was made

pub map-pushed : {A B : Type 0} (f : A → B) (xs : List A) (i : ℕ) (x : A) (y : B) (acc more whole : List B) → i < length xs → x ≡ get_or xs i x → y ≡ f x → more ≡ acc ++ y ∷ []
    → acc ++ map f (drop i xs) ≡ whole → more ++ map f (drop (i + 1) xs) ≡ whole
map-pushed f xs i x y acc more whole within is made pushed e =
    ap (λ l. l ++ map f (drop (i + 1) xs)) (pushed ∙ ap (λ z. acc ++ z ∷ []) made) ∙ map-turn f xs i x acc whole within is e

pub map_2-pushed : {A B C : Type 0} (f : A → B → C) (xs : List A) (ys : List B) (i : ℕ) (x : A) (y : B) (z : C) (acc more whole : List C) → i < min (length xs) (length ys) → x ≡ get_or xs i x → y ≡ get_or ys i y
    → z ≡ f x y → more ≡ acc ++ z ∷ [] → acc ++ map_2 f (drop i xs) (drop i ys) ≡ whole → more ++ map_2 f (drop (i + 1) xs) (drop (i + 1) ys) ≡ whole
map_2-pushed f xs ys i x y z acc more whole within is also made pushed e =
    ap (λ l. l ++ map_2 f (drop (i + 1) xs) (drop (i + 1) ys)) (pushed ∙ ap (λ w. acc ++ w ∷ []) made) ∙ map_2-turn f xs ys i x y acc whole (omega arith) is (omega arith) also e

pub map_2-done : {A B C : Type 0} (f : A → B → C) (xs : List A) (ys : List B) (i : ℕ) (acc whole : List C) → min (length xs) (length ys) ≤ i → acc ++ map_2 f (drop i xs) (drop i ys) ≡ whole → acc ≡ whole
map_2-done f xs ys i acc whole past e = by_length (cases_lt i (length xs))
  where
    by_length : (i < length xs) ⊎ (length xs ≤ i) → acc ≡ whole
    by_length (inl within) = map_2-end f xs ys i acc whole (omega arith) e
    by_length (inr over) = map_2-over f xs ys i acc whole over e

pub map_3-pushed : {A B C D : Type 0} (f : A → B → C → D) (xs : List A) (ys : List B) (zs : List C) (i : ℕ) (x : A) (y : B) (z : C) (w : D) (acc more whole : List D)
    → i < min (min (length xs) (length ys)) (length zs) → x ≡ get_or xs i x → y ≡ get_or ys i y → z ≡ get_or zs i z → w ≡ f x y z → more ≡ acc ++ w ∷ []
    → acc ++ map_3 f (drop i xs) (drop i ys) (drop i zs) ≡ whole → more ++ map_3 f (drop (i + 1) xs) (drop (i + 1) ys) (drop (i + 1) zs) ≡ whole
map_3-pushed f xs ys zs i x y z w acc more whole within is also third made pushed e =
    ap (λ l. l ++ map_3 f (drop (i + 1) xs) (drop (i + 1) ys) (drop (i + 1) zs)) (pushed ∙ ap (λ v. acc ++ v ∷ []) made) ∙
    map_3-turn f xs ys zs i x y z acc whole (omega arith) is (omega arith) also (omega arith) third e

pub map_3-done : {A B C D : Type 0} (f : A → B → C → D) (xs : List A) (ys : List B) (zs : List C) (i : ℕ) (acc whole : List D) → min (min (length xs) (length ys)) (length zs) ≤ i
    → acc ++ map_3 f (drop i xs) (drop i ys) (drop i zs) ≡ whole → acc ≡ whole
map_3-done f xs ys zs i acc whole past e = by_first (cases_lt i (length xs))
  where
    by_second : (i < length xs) → (i < length ys) ⊎ (length ys ≤ i) → acc ≡ whole
    by_second within (inl also) = map_3-last f xs ys zs i acc whole (omega arith) e
    by_second within (inr over) = map_3-end f xs ys zs i acc whole over e

    by_first : (i < length xs) ⊎ (length xs ≤ i) → acc ≡ whole
    by_first (inl within) = by_second within (cases_lt i (length ys))
    by_first (inr over) = map_3-over f xs ys zs i acc whole over e

-- ---- words, or the first fault

-- behind words that were made
abbrev pub all_behind : List ℕ → Result (List ℕ) LaneFault → Result (List ℕ) LaneFault
all_behind acc (Ok words) = Ok (acc ++ words)
all_behind acc (Err fault) = Err fault

pub all_behind-none : (r : Result (List ℕ) LaneFault) → r ≡ all_behind [] r
all_behind-none (Ok words) = refl
all_behind-none (Err fault) = refl

ok-first : (word : ℕ) (rest : List (Result ℕ LaneFault)) → all_ok (Ok word ∷ rest) ≡ all_behind (word ∷ []) (all_ok rest)
ok-first word rest = given (all_ok rest) refl
  where
    given : (r : Result (List ℕ) LaneFault) → all_ok rest ≡ r → all_ok (Ok word ∷ rest) ≡ all_behind (word ∷ []) (all_ok rest)
    given (Ok words) e = rw e refl
    given (Err fault) e = rw e refl

all_behind-twice : (acc more : List ℕ) (r : Result (List ℕ) LaneFault) → all_behind acc (all_behind more r) ≡ all_behind (acc ++ more) r
all_behind-twice acc more (Ok words) = ap Ok (sym (append_assoc acc more words))
all_behind-twice acc more (Err fault) = refl

module _ {A B : Type 0} (f : A → B → Result ℕ LaneFault) (xs : List A) (ys : List B) (whole : Result (List ℕ) LaneFault) (i : ℕ) (x : A) (y : B) (acc : List ℕ)
    (within : i < min (length xs) (length ys)) (is : x ≡ get_or xs i x) (also : y ≡ get_or ys i y) (e : whole ≡ all_behind acc (all_ok (map_2 f (drop i xs) (drop i ys)))) where
  opened : whole ≡ all_behind acc (all_ok (f x y ∷ map_2 f (drop (i + 1) xs) (drop (i + 1) ys)))
  opened = e ∙ (ap (λ l. all_behind acc (all_ok (map_2 f l (drop i ys)))) (drop-next xs i x (omega arith) is) ∙
      ap (λ l. all_behind acc (all_ok (map_2 f (x ∷ drop (i + 1) xs) l))) (drop-next ys i y (omega arith) also))

  pub all-pushed : (word : ℕ) (more : List ℕ) → Ok word ≡ f x y → more ≡ acc ++ word ∷ [] → whole ≡ all_behind more (all_ok (map_2 f (drop (i + 1) xs) (drop (i + 1) ys)))
  all-pushed word more made pushed =
      let rest = map_2 f (drop (i + 1) xs) (drop (i + 1) ys) in
      opened ∙ (ap (λ r. all_behind acc (all_ok (r ∷ rest))) (sym made) ∙ (ap (all_behind acc) (ok-first word rest) ∙
      (all_behind-twice acc (word ∷ []) (all_ok rest) ∙ ap (λ l. all_behind l (all_ok rest)) (sym pushed))))

  pub all-fault : (fault : LaneFault) → Err fault ≡ f x y → whole ≡ Err fault
  all-fault fault made =
      let rest = map_2 f (drop (i + 1) xs) (drop (i + 1) ys) in
      opened ∙ (ap (λ r. all_behind acc (all_ok (r ∷ rest))) (sym made) ∙ fault-first fault rest)
    where
      fault-first : (fault : LaneFault) (rest : List (Result ℕ LaneFault)) → all_behind acc (all_ok (Err fault ∷ rest)) ≡ Err fault
      fault-first fault rest = refl

pub all-done : {A B : Type 0} (f : A → B → Result ℕ LaneFault) (xs : List A) (ys : List B) (whole : Result (List ℕ) LaneFault) (i : ℕ) (acc : List ℕ) → min (length xs) (length ys) ≤ i
    → whole ≡ all_behind acc (all_ok (map_2 f (drop i xs) (drop i ys))) → whole ≡ Ok acc
all-done f xs ys whole i acc past e =
    e ∙ (ap (λ l. all_behind acc (all_ok l)) (sym (map_2-done f xs ys i [] (map_2 f (drop i xs) (drop i ys)) past refl)) ∙ ap Ok (append-nil acc))

-- ---- letters

pub picked-none : (letters words : List ℕ) → letters ≡ [] → picked letters words ≡ words
picked-none letters words is = ap (λ l. picked l words) is

pub picked-some : (letters words : List ℕ) → false ≡ (length letters == 0) → picked letters words ≡ map (slice_index words) letters
picked-some [] words some = absurd (false≢true some)
picked-some (letter ∷ letters) words some = refl

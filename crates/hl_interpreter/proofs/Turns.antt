-- Lists that are gone through from the front: what was made so far, and what the rest makes.
use Rattle.std.proofs.Common.{◌≡◌, ◌∙◌, refl, sym, ap, ℕ, zero, suc, ◌+◌, ◌<◌, ◌≤◌, List, [], ◌∷◌, ◌++◌, append_assoc, append-nil, drop, get_or, length, map, suc-add, arith}
use Rattle.std.proofs.lemmas.List.{drop_all}
use Rattle.std.specs.List.{concat, range_with_len}
use Rattle.hl_source.specs.Operations.{map_2, map_3}
pub use Rattle.hl_layout.proofs.Parts.{drop-next, made-next}

-- a step of `map`
pub map-turn : {A B : Type 0} (f : A → B) (xs : List A) (i : ℕ) (x : A) (acc : List B) (whole : List B) → i < length xs → x ≡ get_or xs i x
    → acc ++ map f (drop i xs) ≡ whole → (acc ++ f x ∷ []) ++ map f (drop (i + 1) xs) ≡ whole
map-turn f xs i x acc whole within is e =
    made-next acc (f x) (map f (drop (i + 1) xs)) whole (ap (λ l. acc ++ map f l) (sym (drop-next xs i x within is)) ∙ e)

pub map-end : {A B : Type 0} (f : A → B) (xs : List A) (i : ℕ) (acc whole : List B) → length xs ≤ i → acc ++ map f (drop i xs) ≡ whole → acc ≡ whole
map-end f xs i acc whole past e = sym (append-nil acc) ∙ (ap (λ l. acc ++ map f l) (sym (drop_all i xs past)) ∙ e)

-- a step of `map_2`
pub map_2-turn : {A B C : Type 0} (f : A → B → C) (xs : List A) (ys : List B) (i : ℕ) (x : A) (y : B) (acc whole : List C) → i < length xs → x ≡ get_or xs i x → i < length ys → y ≡ get_or ys i y
    → acc ++ map_2 f (drop i xs) (drop i ys) ≡ whole → (acc ++ f x y ∷ []) ++ map_2 f (drop (i + 1) xs) (drop (i + 1) ys) ≡ whole
map_2-turn f xs ys i x y acc whole within is also too e =
    made-next acc (f x y) (map_2 f (drop (i + 1) xs) (drop (i + 1) ys)) whole
    (ap (λ l. acc ++ map_2 f l (y ∷ drop (i + 1) ys)) (sym (drop-next xs i x within is)) ∙ (ap (λ l. acc ++ map_2 f (drop i xs) l) (sym (drop-next ys i y also too)) ∙ e))

map_2-none : {A B C : Type 0} (f : A → B → C) (xs : List A) → map_2 f xs [] ≡ []
map_2-none f [] = refl
map_2-none f (x ∷ xs) = refl

pub map_2-end : {A B C : Type 0} (f : A → B → C) (xs : List A) (ys : List B) (i : ℕ) (acc whole : List C) → length ys ≤ i → acc ++ map_2 f (drop i xs) (drop i ys) ≡ whole → acc ≡ whole
map_2-end f xs ys i acc whole past e =
    sym (append-nil acc) ∙ (ap (λ l. acc ++ l) (sym (map_2-none f (drop i xs))) ∙ (ap (λ l. acc ++ map_2 f (drop i xs) l) (sym (drop_all i ys past)) ∙ e))

pub map_2-over : {A B C : Type 0} (f : A → B → C) (xs : List A) (ys : List B) (i : ℕ) (acc whole : List C) → length xs ≤ i → acc ++ map_2 f (drop i xs) (drop i ys) ≡ whole → acc ≡ whole
map_2-over f xs ys i acc whole past e = sym (append-nil acc) ∙ (ap (λ l. acc ++ map_2 f l (drop i ys)) (sym (drop_all i xs past)) ∙ e)

-- a step of `map_3`
pub map_3-turn : {A B C D : Type 0} (f : A → B → C → D) (xs : List A) (ys : List B) (zs : List C) (i : ℕ) (x : A) (y : B) (z : C) (acc whole : List D)
    → i < length xs → x ≡ get_or xs i x → i < length ys → y ≡ get_or ys i y → i < length zs → z ≡ get_or zs i z
    → acc ++ map_3 f (drop i xs) (drop i ys) (drop i zs) ≡ whole → (acc ++ f x y z ∷ []) ++ map_3 f (drop (i + 1) xs) (drop (i + 1) ys) (drop (i + 1) zs) ≡ whole
map_3-turn f xs ys zs i x y z acc whole a b c d e g h =
    made-next acc (f x y z) (map_3 f (drop (i + 1) xs) (drop (i + 1) ys) (drop (i + 1) zs)) whole
    (ap (λ l. acc ++ map_3 f l (y ∷ drop (i + 1) ys) (z ∷ drop (i + 1) zs)) (sym (drop-next xs i x a b)) ∙
    (ap (λ l. acc ++ map_3 f (drop i xs) l (z ∷ drop (i + 1) zs)) (sym (drop-next ys i y c d)) ∙
    (ap (λ l. acc ++ map_3 f (drop i xs) (drop i ys) l) (sym (drop-next zs i z e g)) ∙ h)))

map_3-none : {A B C D : Type 0} (f : A → B → C → D) (xs : List A) (zs : List C) → map_3 f xs [] zs ≡ []
map_3-none f [] zs = refl
map_3-none f (x ∷ xs) zs = refl

map_3-no_third : {A B C D : Type 0} (f : A → B → C → D) (xs : List A) (ys : List B) → map_3 f xs ys [] ≡ []
map_3-no_third f [] ys = refl
map_3-no_third f (x ∷ xs) [] = refl
map_3-no_third f (x ∷ xs) (y ∷ ys) = refl

pub map_3-over : {A B C D : Type 0} (f : A → B → C → D) (xs : List A) (ys : List B) (zs : List C) (i : ℕ) (acc whole : List D) → length xs ≤ i
    → acc ++ map_3 f (drop i xs) (drop i ys) (drop i zs) ≡ whole → acc ≡ whole
map_3-over f xs ys zs i acc whole past e = sym (append-nil acc) ∙ (ap (λ l. acc ++ map_3 f l (drop i ys) (drop i zs)) (sym (drop_all i xs past)) ∙ e)

pub map_3-end : {A B C D : Type 0} (f : A → B → C → D) (xs : List A) (ys : List B) (zs : List C) (i : ℕ) (acc whole : List D) → length ys ≤ i
    → acc ++ map_3 f (drop i xs) (drop i ys) (drop i zs) ≡ whole → acc ≡ whole
map_3-end f xs ys zs i acc whole past e =
    sym (append-nil acc) ∙ (ap (λ l. acc ++ l) (sym (map_3-none f (drop i xs) (drop i zs))) ∙ (ap (λ l. acc ++ map_3 f (drop i xs) l (drop i zs)) (sym (drop_all i ys past)) ∙ e))

pub map_3-last : {A B C D : Type 0} (f : A → B → C → D) (xs : List A) (ys : List B) (zs : List C) (i : ℕ) (acc whole : List D) → length zs ≤ i
    → acc ++ map_3 f (drop i xs) (drop i ys) (drop i zs) ≡ whole → acc ≡ whole
map_3-last f xs ys zs i acc whole past e =
    sym (append-nil acc) ∙ (ap (λ l. acc ++ l) (sym (map_3-no_third f (drop i xs) (drop i ys))) ∙ (ap (λ l. acc ++ map_3 f (drop i xs) (drop i ys) l) (sym (drop_all i zs past)) ∙ e))

-- the words of parts, joined
pub concat-turn : (xs : List (List ℕ)) (i : ℕ) (x acc whole : List ℕ) → i < length xs → x ≡ get_or xs i x → acc ++ concat (drop i xs) ≡ whole → (acc ++ x) ++ concat (drop (i + 1) xs) ≡ whole
concat-turn xs i x acc whole within is e =
    append_assoc acc x (concat (drop (i + 1) xs)) ∙ (ap (λ l. acc ++ concat l) (sym (drop-next xs i x within is)) ∙ e)

pub concat-end : (xs : List (List ℕ)) (i : ℕ) (acc whole : List ℕ) → length xs ≤ i → acc ++ concat (drop i xs) ≡ whole → acc ≡ whole
concat-end xs i acc whole past e = sym (append-nil acc) ∙ (ap (λ l. acc ++ concat l) (sym (drop_all i xs past)) ∙ e)

-- ranges

pub range-next : (from i count : ℕ) → i < count → drop i (range_with_len from count) ≡ (from + i) ∷ drop (i + 1) (range_with_len from count)
range-next from i zero within = absurd (omega arith)
range-next from zero (suc count) within = ap (λ n. n ∷ range_with_len (from + 1) count) (omega arith)
range-next from (suc i) (suc count) within =
    range-next (from + 1) i count (omega arith) ∙ ap (λ n. n ∷ drop (i + 1) (range_with_len (from + 1) count)) (omega arith) ∙
    ap (λ k. (from + suc i) ∷ drop k (from ∷ range_with_len (from + 1) count)) (sym (suc-add i 1))

pub length-range : (from count : ℕ) → length (range_with_len from count) ≡ count
length-range from zero = refl
length-range from (suc count) = ap suc (length-range (from + 1) count)

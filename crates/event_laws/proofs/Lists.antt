-- What holds of each of a list holds of each of what is made of it.
use Rattle.std.proofs.Common.{ℕ, zero, suc, List, [], ◌∷◌, ◌++◌, map, take, drop, arith}
use Rattle.std.specs.Prelude.{replicate, slice_get, slice_index, slice_index_or, slice_set, unwrap_or, zip}
use Rattle.std.specs.List.{All, concat}
use Rattle.hl_source.specs.Operations.{map_2, map_3}
use Rattle.event_laws.specs.Laws.{Every, Is32Bits}

pub every_append : {A : Type 0} (P : A → Type 0) (xs ys : List A) → Every P xs → Every P ys → Every P (xs ++ ys)
every_append P [] ys p q = q
every_append P (x ∷ xs) ys p q = (p.0, every_append P xs ys p.1 q)

pub every_from_all : {A : Type 0} (P : A → Type 0) (xs : List A) → All P xs → Every P xs
every_from_all P [] all = tt
every_from_all P (x ∷ xs) all = (all 0 x (omega arith), every_from_all P xs (λ k d low. all (suc k) d (omega (arith, low))))

pub every_to : {A B : Type 0} (P : A → Type 0) (Q : B → Type 0) (f : A → B) → ((x : A) → P x → Q (f x)) → (xs : List A) → Every P xs → Every Q (map f xs)
every_to P Q f h [] p = tt
every_to P Q f h (x ∷ xs) p = (h x p.0, every_to P Q f h xs p.1)

-- whatever the elements are
pub every_made : {A B : Type 0} (Q : B → Type 0) (f : A → B) → ((x : A) → Q (f x)) → (xs : List A) → Every Q (map f xs)
every_made Q f h [] = tt
every_made Q f h (x ∷ xs) = (h x, every_made Q f h xs)

pub every_take : {A : Type 0} (P : A → Type 0) (n : ℕ) (xs : List A) → Every P xs → Every P (take n xs)
every_take P zero xs p = tt
every_take P (suc n) [] p = tt
every_take P (suc n) (x ∷ xs) p = (p.0, every_take P n xs p.1)

pub every_drop : {A : Type 0} (P : A → Type 0) (n : ℕ) (xs : List A) → Every P xs → Every P (drop n xs)
every_drop P zero xs p = p
every_drop P (suc n) [] p = tt
every_drop P (suc n) (x ∷ xs) p = every_drop P n xs p.1

pub every_replicate : {A : Type 0} (P : A → Type 0) (n : ℕ) (x : A) → P x → Every P (replicate n x)
every_replicate P zero x p = tt
every_replicate P (suc n) x p = (p, every_replicate P n x p)

pub every_concat : (P : ℕ → Type 0) (xss : List (List ℕ)) → Every (Every P) xss → Every P (concat xss)
every_concat P [] p = tt
every_concat P (xs ∷ xss) p = every_append P xs (concat xss) p.0 (every_concat P xss p.1)

-- an element, or else another
pub every_at : {A : Type 0} (P : A → Type 0) (xs : List A) (number : ℕ) (d : A) → Every P xs → P d → P (slice_index_or xs number d)
every_at P [] number d p q = q
every_at P (x ∷ xs) zero d p q = p.0
every_at P (x ∷ xs) (suc number) d p q = every_at P xs number d p.1 q

pub every_get : {A : Type 0} (P : A → Type 0) (xs : List A) (number : ℕ) (d : A) → Every P xs → P d → P (unwrap_or (slice_get xs number) d)
every_get P [] number d p q = q
every_get P (x ∷ xs) zero d p q = p.0
every_get P (x ∷ xs) (suc number) d p q = every_get P xs number d p.1 q

pub every_set : {A : Type 0} (P : A → Type 0) (xs : List A) (number : ℕ) (x : A) → Every P xs → P x → Every P (slice_set xs number x)
every_set P [] number x p q = tt
every_set P (y ∷ xs) zero x p q = (q, p.1)
every_set P (y ∷ xs) (suc number) x p q = (p.0, every_set P xs number x p.1 q)

pub every_map_2 : {A B C : Type 0} (P : A → Type 0) (Q : B → Type 0) (R : C → Type 0) (f : A → B → C) → ((x : A) (y : B) → P x → Q y → R (f x y)) → (xs : List A) (ys : List B) → Every P xs → Every Q ys →
    Every R (map_2 f xs ys)
every_map_2 P Q R f h [] ys p q = tt
every_map_2 P Q R f h (x ∷ xs) [] p q = tt
every_map_2 P Q R f h (x ∷ xs) (y ∷ ys) p q = (h x y p.0 q.0, every_map_2 P Q R f h xs ys p.1 q.1)

pub every_map_3 : {A B C D : Type 0} (P : A → Type 0) (Q : B → Type 0) (R : C → Type 0) (T : D → Type 0) (f : A → B → C → D) → ((x : A) (y : B) (z : C) → P x → Q y → R z → T (f x y z)) →
    (xs : List A) (ys : List B) (zs : List C) → Every P xs → Every Q ys → Every R zs → Every T (map_3 f xs ys zs)
every_map_3 P Q R T f h [] ys zs p q r = tt
every_map_3 P Q R T f h (x ∷ xs) [] zs p q r = tt
every_map_3 P Q R T f h (x ∷ xs) (y ∷ ys) [] p q r = tt
every_map_3 P Q R T f h (x ∷ xs) (y ∷ ys) (z ∷ zs) p q r = (h x y z p.0 q.0 r.0, every_map_3 P Q R T f h xs ys zs p.1 q.1 r.1)

pub every_zip : {A B : Type 0} (P : A → Type 0) (Q : B → Type 0) (xs : List A) (ys : List B) → Every P xs → Every Q ys → Every (λ w. P w.0 × Q w.1) (zip xs ys)
every_zip P Q [] ys p q = tt
every_zip P Q (x ∷ xs) [] p q = tt
every_zip P Q (x ∷ xs) (y ∷ ys) p q = ((p.0, q.0), every_zip P Q xs ys p.1 q.1)

-- a list of words, and lists of words
abbrev pub AreWords : List ℕ → Type 0
AreWords words = Every Is32Bits words

abbrev pub AllWords : List (List ℕ) → Type 0
AllWords lists = Every AreWords lists

pub zero_is : Is32Bits 0
zero_is = omega arith

pub word_at : (words : List ℕ) (number : ℕ) → AreWords words → Is32Bits (slice_index words number)
word_at words number h = every_at Is32Bits words number 0 h zero_is

-- The first of a list that passes a test.
use Rattle.std.proofs.Common.{◌≡◌, refl, subst, arith, ℕ, suc, ◌+◌, ◌<◌, Bool, true, false, not, cond, nat_lt, List, [], ◌∷◌, length, one-add, position, find, Some}
use Rattle.std.specs.Prelude.{slice_get}
use Rattle.std.specs.List.{All, list_all, position_or_len}
use Rattle.std.proofs.lemmas.Bool.{ltb-true}
use Rattle.std.proofs.lemmas.Option.{cond_some, same_Some}
use Rattle.hl_rules.proofs.TypeLemmas.{and-left, and-right}

-- the first of a list that passes, and its place
pub record IsFirst {A : Type 0} (test : A → Bool) (xs : List A) (place : ℕ) (x : A) : Type 0 where
  pub there : slice_get xs place ≡ Some x
  pub found : find test xs ≡ Some x
  pub passes : test x ≡ true

-- behind one that doesn't pass
first-behind : {A : Type 0} (test : A → Bool) (x : A) (xs : List A) → test x ≡ false → (y : A) × IsFirst test xs (position_or_len test xs) y → (y : A) × IsFirst test (x ∷ xs) (position_or_len test (x ∷ xs)) y
first-behind test x xs e r = (r.0, record { there = rw e (rw one-add r.1.there); found = rw e r.1.found; passes = r.1.passes })

first-or-none : {A : Type 0} (test : A → Bool) (xs : List A) → position_or_len test xs < length xs → (x : A) × IsFirst test xs (position_or_len test xs) x
first-or-none test [] h = absurd (omega arith)
first-or-none {A} test (x ∷ xs) h = on (test x) refl h (first-or-none test xs)
  where
    on : (passes : Bool) → test x ≡ passes → cond (not passes) (1 + position_or_len test xs) 0 < suc (length xs) → (position_or_len test xs < length xs → (y : A) × IsFirst test xs (position_or_len test xs) y) → (y : A) × IsFirst test (x ∷ xs) (position_or_len test (x ∷ xs)) y
    on true e k rest = (x, record { there = rw e refl; found = rw e refl; passes = e })
    on false e k rest = first-behind test x xs e (rest (omega arith))

pub position-first : {A : Type 0} (test : A → Bool) (xs : List A) (place : ℕ) → position test xs ≡ Some place → (x : A) × IsFirst test xs place x
position-first {A} test xs place e =
    let c : (nat_lt (position_or_len test xs) (length xs) ≡ true) × (position_or_len test xs ≡ place) = cond_some (nat_lt (position_or_len test xs) (length xs)) (position_or_len test xs) place e in
    subst (λ n. (x : A) × IsFirst test xs n x) c.1 (first-or-none test xs (ltb-true (position_or_len test xs) (length xs) c.0))

-- what holds of each of a list holds of the one that is found
pub find-all : {A : Type 0} (P : A → Type 0) (test : A → Bool) (xs : List A) (x : A) → All P xs → find test xs ≡ Some x → P x
find-all P test [] x h e = absurd (cc e)
find-all {A} P test (y ∷ ys) x h e = on (test y) e (λ k. find-all P test ys x (λ n d l. h (suc n) d (omega arith)) k)
  where
    on : (passes : Bool) → cond passes (Some y) (find test ys) ≡ Some x → (find test ys ≡ Some x → P x) → P x
    on true k rest = subst P (same_Some y x k) (h 0 y (omega arith))
    on false k rest = rest k

-- what a test says of each of a list it says of the one that is found
pub find-tested : {A : Type 0} (test passes : A → Bool) (xs : List A) (x : A) → list_all test xs ≡ true → find passes xs ≡ Some x → test x ≡ true
find-tested test passes [] x h e = absurd (cc e)
find-tested {A} test passes (y ∷ ys) x h e = on (passes y) e (λ k. find-tested test passes ys x (and-right (test y) (list_all test ys) h) k)
  where
    on : (found : Bool) → cond found (Some y) (find passes ys) ≡ Some x → (find passes ys ≡ Some x → test x ≡ true) → test x ≡ true
    on true k rest = subst (λ z. test z ≡ true) (same_Some y x k) (and-left (test y) (list_all test ys) h)
    on false k rest = rest k

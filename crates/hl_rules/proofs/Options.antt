-- Tests that pass, lists with one more behind them, and options that are there.
use Rattle.std.proofs.Common.{◌≡◌, refl, ap, arith, ℕ, suc, ◌≤◌, Bool, true, false, not, nat_le, List, [], ◌∷◌, ◌++◌, length, Option, None, Some}
use Rattle.std.specs.Prelude.{◌&&◌, ◌||◌, bytes_eq, option_map}
use Rattle.std.proofs.lemmas.Slice.Eq.{bytes_eq-Decides}
use Rattle.std.proofs.lemmas.Option.{same_Some}
use Rattle.hl_rules.specs.Expressions.{with_two}

-- ---- tests

pub or-one : (a b : Bool) → a || b ≡ false → a ≡ false
or-one false b e = refl
or-one true b e = absurd (cc e)

pub or-other : (a b : Bool) → a || b ≡ false → b ≡ false
or-other false b e = e
or-other true b e = absurd (cc e)

pub not-false : (b : Bool) → not b ≡ false → b ≡ true
not-false true e = refl
not-false false e = absurd (cc e)

pub not-holds : (b : Bool) → not b ≡ true → b ≡ false
not-holds false e = refl
not-holds true e = absurd (cc e)

pub not-both : (a b : Bool) → a && not b ≡ false → a ≡ true → b ≡ true
not-both true b e h = not-false b e
not-both false b e h = absurd (cc h)

pub no-more : (a b : ℕ) → nat_le a b ≡ true → a ≤ b
no-more a b e = grind arith

pub same-text : (a b : List ℕ) → bytes_eq a b ≡ true → a ≡ b
same-text a b e = (bytes_eq-Decides a b).0 e

pub or-true : (a : Bool) → a || true ≡ true
or-true true = refl
or-true false = refl

-- ---- lists

pub length-one : {A : Type 0} (xs : List A) (x : A) → length (xs ++ x ∷ []) ≡ suc (length xs)
length-one [] x = refl
length-one (y ∷ xs) x = ap suc (length-one xs x)

-- ---- options

-- what is there was made of what is there
pub record IsMapped {A B : Type 0} (f : A → B) (o : Option A) (y : B) : Type 0 where
  pub from : A
  pub is : o ≡ Some from
  pub gives : f from ≡ y

pub mapped-there : {A B : Type 0} (f : A → B) (o : Option A) (y : B) → option_map f o ≡ Some y → IsMapped f o y
mapped-there f None y e = absurd (cc e)
mapped-there f (Some x) y e = record { from = x; is = refl; gives = same_Some (f x) y e }

pub record IsOfTwo {A B C : Type 0} (f : A → B → Option C) (a : Option A) (b : Option B) (z : C) : Type 0 where
  pub one : A
  pub other : B
  pub is_one : a ≡ Some one
  pub is_other : b ≡ Some other
  pub gives : f one other ≡ Some z

pub two-there : {A B C : Type 0} (f : A → B → Option C) (a : Option A) (b : Option B) (z : C) → with_two f a b ≡ Some z → IsOfTwo f a b z
two-there f None b z e = absurd (cc e)
two-there f (Some x) None z e = absurd (cc e)
two-there f (Some x) (Some y) z e = record { one = x; other = y; is_one = refl; is_other = refl; gives = e }

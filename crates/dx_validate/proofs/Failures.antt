-- A search that has passed the places below i without a failure.
use Rattle.std.proofs.Common.{◌≡◌, ℕ, ◌+◌, ◌<◌, ◌≤◌, List, length, get_or, arith, refl, ◌∙◌, subst, below_more}
use Rattle.std.proofs.lemmas.Option.{slice_get_within, slice_get_read, get_or_from_slice_get}
use Rattle.dx_validate.specs.Places.{FailsAt}

-- no part below i fails
abbrev pub NoFailureBelow : {A : Type 0} → (A → Type 0) → List A → ℕ → Type 0
NoFailureBelow {A} Fact parts i = (k : ℕ) → k < i → FailsAt Fact parts k → ⊥

pub Holds-at : {A : Type 0} (Fact : A → Type 0) (parts : List A) (i : ℕ) (x : A) → x ≡ get_or parts i x → Fact x → FailsAt Fact parts i → ⊥
Holds-at Fact parts i x e h (y, at, wrong) = wrong (subst Fact (e ∙ get_or_from_slice_get parts i y x at) h)

pub NoFailureBelow-next : {A : Type 0} (Fact : A → Type 0) (parts : List A) (i : ℕ) (x : A) → NoFailureBelow Fact parts i →
    x ≡ get_or parts i x → Fact x → NoFailureBelow Fact parts (i + 1)
NoFailureBelow-next Fact parts i x below e h =
    below_more (λ (k : ℕ). FailsAt Fact parts k → ⊥) i below (Holds-at Fact parts i x e h)

pub NoFailureBelow-all : {A : Type 0} (Fact : A → Type 0) (parts : List A) (i : ℕ) → NoFailureBelow Fact parts i → length parts ≤ i →
    (k : ℕ) → FailsAt Fact parts k → ⊥
NoFailureBelow-all Fact parts i below long k fails =
    let inside : k < length parts = slice_get_within parts k fails.0 fails.1 in below k (omega arith) fails

-- a part that is there and fails, fails at its place
pub FailsAt-read : {A : Type 0} (Fact : A → Type 0) (parts : List A) (i : ℕ) (x : A) → i < length parts → x ≡ get_or parts i x → ¬ Fact x → FailsAt Fact parts i
FailsAt-read Fact parts i x lt e wrong = (x, slice_get_read parts (length parts) i x refl lt e, wrong)

-- Numbers come back from their written forms.
use Rattle.std.proofs.Common.{◌≡◌, ◌≢◌, ℕ, ◌+◌, ◌-◌, ◌*◌, ◌/◌, ◌%◌, ◌^◌, ◌<◌, ℤ, pos, negsuc, ap, sym, ◌∙◌, arith, ⊎_elim, inl, inr}
use Rattle.std.specs.Prelude.{◌==◌, if◌then◌else◌, ◌⊎◌}
use Rattle.std.proofs.lemmas.Bool.Decides.{nat_tests, eqb_tells}
use Rattle.bc_records.specs.BodyRecords.{absolute}
use Rattle.bc_records.specs.ConstantRecords.{signed_value}
use Rattle.bc_records.specs.Written.{relative, signed_number}

pub absolute-relative : (next value : ℕ) → value < 2 ^ 32 → absolute next (relative next value) ≡ value
absolute-relative next value below = omega arith

pub relative-below : (next value : ℕ) → relative next value < 2 ^ 32
relative-below next value = omega arith

-- a test of two equal numbers, and of two others
pub test_same : {A : Type 0} (m n : ℕ) (x y : A) → m ≡ n → (if m == n then x else y) ≡ x
test_same m n x y e = grind (arith, nat_tests)

pub test_other : {A : Type 0} (m n : ℕ) (x y : A) → m ≢ n → (if m == n then x else y) ≡ y
test_other m n x y e = grind (arith, nat_tests)

-- two numbers are equal or not
pub same_or_other : (m n : ℕ) → (m ≡ n) ⊎ (m ≢ n)
same_or_other m n = ⊎_elim (λ p. inl p.1) (λ p. inr p.1) (eqb_tells m n)

pub even_value : (n : ℕ) → signed_value (2 * n) ≡ pos n
even_value n =
    let even : 2 * n % 2 ≡ 0 = omega arith in
    let half : 2 * n / 2 ≡ n = omega arith in
    test_same (2 * n % 2) 0 _ _ even ∙ ap pos half

pub odd_value : (n : ℕ) → signed_value (2 * (n + 1) + 1) ≡ negsuc n
odd_value n =
    let odd : (2 * (n + 1) + 1) % 2 ≢ 0 = omega arith in
    let above : 2 * (n + 1) + 1 ≢ 1 = omega arith in
    let half : (2 * (n + 1) + 1) / 2 - 1 ≡ n = omega arith in
    test_other ((2 * (n + 1) + 1) % 2) 0 _ _ odd ∙ (test_other (2 * (n + 1) + 1) 1 _ _ above ∙ ap negsuc half)

pub signed_value-signed_number : (z : ℤ) → signed_value (signed_number z) ≡ z
signed_value-signed_number (pos n) = even_value n
signed_value-signed_number (negsuc n) =
    ⊎_elim (λ low. ap signed_value (test_same n (2 ^ 63 - 1) 1 (2 * (n + 1) + 1) low) ∙ ap negsuc (sym low))
    (λ other. ap signed_value (test_other n (2 ^ 63 - 1) 1 (2 * (n + 1) + 1) other) ∙ odd_value n)
    (same_or_other n (2 ^ 63 - 1))

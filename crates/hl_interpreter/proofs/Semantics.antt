-- The words of semantics.
use Rattle.std.proofs.Common.{◌≡◌, ◌∙◌, sym, ap, ℕ, ◌+◌, ◌*◌, ◌^◌, [], ◌∷◌, arith}
use Rattle.std.proofs.Math.Nat.{mul_assoc}
use Rattle.std.proofs.lemmas.Nat.{mul-mod_second}
use Rattle.lane_core.specs.Words.{wrapped}

-- sums may be cut at each step
sums-cut : (x p q : ℕ) → wrapped (x + wrapped (wrapped p + wrapped q)) ≡ wrapped (x + (p + q))
sums-cut x p q = omega arith

pub product-cut : (p x : ℕ) → wrapped (wrapped p + x) ≡ wrapped (p + x)
product-cut p x = omega arith

pub flat-cut : (x y z a b : ℕ) → wrapped (x + wrapped (wrapped (y * a) + wrapped (z * wrapped (a * b)))) ≡ wrapped (x + (y * a + z * a * b))
flat-cut x y z a b =
    ap (λ n. wrapped (x + wrapped (wrapped (y * a) + n))) (mul-mod_second z (a * b) (2 ^ 32) ∙ ap wrapped (sym (mul_assoc z a b))) ∙ sums-cut x (y * a) (z * a * b)

-- three words, one by one
pub three-same : (a b d x y z : ℕ) → a ≡ x → b ≡ y → d ≡ z → a ∷ b ∷ d ∷ [] ≡ x ∷ y ∷ z ∷ []
three-same a b d x y z e h i = ap (λ n. n ∷ b ∷ d ∷ []) e ∙ (ap (λ n. x ∷ n ∷ d ∷ []) h ∙ ap (λ n. x ∷ y ∷ n ∷ []) i)

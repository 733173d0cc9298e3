-- What operations on words of 32 bits give are words of 32 bits.
use Rattle.std.proofs.Common.{◌≡◌, refl, sym, subst, ℕ, zero, suc, ◌+◌, ◌-◌, ◌*◌, ◌/◌, ◌%◌, ◌^◌, ◌<◌, ◌≤◌, Bool, true, false, arith, ℤ, pos, negsuc, neg_ℤ, div-add-mod', div-le_self, mod-lt, pow-suc, mul_assoc, mul-le-mul_right, unsigned_abs}
use Rattle.std.specs.Prelude.{◌==◌, if◌then◌else◌, int_div, int_rem, nat_lt, count_ones}
use Rattle.std.specs.Int.{int_shr, reverse_bits, reverse_bits_onto, trailing_zeros, w32}
use Rattle.std.proofs.lemmas.Bool.{ltb-false}
use Rattle.std.proofs.lemmas.Nat.{ones_le_self, trailing_le}
use Rattle.lane_core.specs.Words.{complement, first_bit_low, signed, truth, unsigned, wrapped}
use Rattle.event_laws.specs.Laws.{Is32Bits}

pub wrapped_is : (number : ℕ) → Is32Bits (wrapped number)
wrapped_is number = mod-lt number (omega arith)

pub truth_is : (b : Bool) → Is32Bits (truth b)
truth_is true = omega arith
truth_is false = omega arith

pub no_greater : (a b : ℕ) → a ≤ b → Is32Bits b → Is32Bits a
no_greater a b low h = omega (arith, low, h)

pub rem_no_greater : (a b : ℕ) → a % b ≤ a
rem_no_greater a b = omega (arith, div-add-mod' a b)

-- signed numbers

-- a number whose size is one of 32 bits
abbrev Near : ℤ → Type 0
Near (pos n) = n < 2 ^ 32
Near (negsuc n) = suc n < 2 ^ 32

signed_low : (word : ℕ) → nat_lt word (2 ^ 31) ≡ true → signed word ≡ pos word
signed_low word e = rw e

signed_high : (word : ℕ) → nat_lt word (2 ^ 31) ≡ false → signed word ≡ negsuc (2 ^ 32 - suc word)
signed_high word e = rw e

signed_near : (word : ℕ) → Is32Bits word → Near (signed word)
signed_near word h = by_test (nat_lt word (2 ^ 31)) refl
  where
    by_test : (b : Bool) → nat_lt word (2 ^ 31) ≡ b → Near (signed word)
    by_test true e = subst Near (sym (signed_low word e)) h
    by_test false e = subst Near (sym (signed_high word e)) (omega (arith, ltb-false word (2 ^ 31) e, h))

unsigned_is : (number : ℤ) → Near number → Is32Bits (unsigned number)
unsigned_is (pos n) h = h
unsigned_is (negsuc n) h = omega arith

negative_near : (n : ℕ) → n < 2 ^ 32 → Near (neg_ℤ (pos n))
negative_near zero h = h
negative_near (suc n) h = h

div_near : (a d : ℤ) → Near a → Near (int_div a d)
div_near (pos a) (pos b) h = no_greater (a / b) a (div-le_self a b) h
div_near (pos a) (negsuc b) h = negative_near (a / suc b) (no_greater (a / suc b) a (div-le_self a (suc b)) h)
div_near (negsuc a) (pos b) h = negative_near (suc a / b) (no_greater (suc a / b) (suc a) (div-le_self (suc a) b) h)
div_near (negsuc a) (negsuc b) h = no_greater (suc a / suc b) (suc a) (div-le_self (suc a) (suc b)) h

rem_near : (a d : ℤ) → Near a → Near (int_rem a d)
rem_near (pos a) d h = no_greater (a % unsigned_abs d) a (rem_no_greater a (unsigned_abs d)) h
rem_near (negsuc a) d h = negative_near (suc a % unsigned_abs d) (no_greater (suc a % unsigned_abs d) (suc a) (rem_no_greater (suc a) (unsigned_abs d)) h)

shifted_near : (a : ℤ) (count : ℕ) → Near a → Near (int_shr a count)
shifted_near (pos a) count h = no_greater (a / 2 ^ count) a (div-le_self a (2 ^ count)) h
shifted_near (negsuc a) count h = omega (arith, div-le_self a (2 ^ count), h)

pub signed_quotient_is : (a b : ℕ) → Is32Bits a → Is32Bits (unsigned (int_div (signed a) (signed b)))
signed_quotient_is a b h = unsigned_is (int_div (signed a) (signed b)) (div_near (signed a) (signed b) (signed_near a h))

pub signed_remainder_is : (a b : ℕ) → Is32Bits a → Is32Bits (unsigned (int_rem (signed a) (signed b)))
signed_remainder_is a b h = unsigned_is (int_rem (signed a) (signed b)) (rem_near (signed a) (signed b) (signed_near a h))

pub signed_shift_is : (a count : ℕ) → Is32Bits a → Is32Bits (unsigned (int_shr (signed a) count))
signed_shift_is a count h = unsigned_is (int_shr (signed a) count) (shifted_near (signed a) count (signed_near a h))

-- bits

pub complement_is : (word : ℕ) → Is32Bits (complement word)
complement_is word = omega arith

pub ones_is : (word : ℕ) → Is32Bits word → Is32Bits (count_ones word)
ones_is word h = no_greater (count_ones word) word (ones_le_self word) h

pub first_low_is : (word : ℕ) → Is32Bits (first_bit_low word)
first_low_is word = by_test (word == 0)
  where
    by_test : (b : Bool) → Is32Bits (if b then 4294967295 else trailing_zeros w32 word)
    by_test true = omega arith
    by_test false = omega (arith, trailing_le 32 word)

reversed_below : (k n a : ℕ) → reverse_bits_onto k n a < suc a * 2 ^ k
unfolding reverse_bits_onto
reversed_below zero n a = omega arith
reversed_below (suc k) n a =
    let shorter : reverse_bits_onto k (n / 2) (a * 2 + n % 2) < suc (a * 2 + n % 2) * 2 ^ k = reversed_below k (n / 2) (a * 2 + n % 2) in
    let last : n % 2 < 2 = mod-lt n (omega arith) in
    let wider : suc (a * 2 + n % 2) * 2 ^ k ≤ (suc a * 2) * 2 ^ k = mul-le-mul_right (2 ^ k) (omega (arith, last)) in
    let same : (suc a * 2) * 2 ^ k ≡ suc a * (2 * 2 ^ k) = mul_assoc (suc a) 2 (2 ^ k) in
    subst (λ b. reverse_bits_onto k (n / 2) (a * 2 + n % 2) < suc a * b) (sym (twice k)) (omega (arith, shorter, wider, same))
  where
    twice : (k : ℕ) → 2 ^ suc k ≡ 2 * 2 ^ k
    twice k = omega (arith, pow-suc 2 k)

pub reversed_is : (word : ℕ) → Is32Bits (reverse_bits w32 word)
reversed_is word = omega (arith, reversed_below 32 word 0)

-- How numbers are spelled, and which numbers they are.
use Rattle.std.specs.Prelude.{◌≡◌, ◌≢◌, ℕ, ◌+◌, ◌*◌, ◌^◌, ◌<◌, Bool, true, false, ◌⊎◌, List, [], ◌∷◌, ◌++◌, length, slice_index}
use Rattle.std.specs.Char.{digit_value, is_digit}
use Rattle.std.specs.List.{AllPass}

-- one digit of a base or more: 0 to 9, and from ten on letters of either case
pub record AreSomeDigits (base : ℕ) (bytes : List ℕ) : Type 0 where
  pub some : 0 < length bytes
  pub each : AllPass (λ b. is_digit b base) bytes

-- the number that digits spell in a base: each stands for its value times a power of the base
abbrev pub digits_number : ℕ → List ℕ → ℕ
digits_number base [] = 0
digits_number base (b ∷ bs) = digit_value b * base ^ length bs + digits_number base bs

-- the digits of a number: decimal without a zero in front, octal with one, or hexadecimal behind `0x`
-- or `0X`. A single `0` is octal
pub data SpellsNumber (bytes : List ℕ) (number : ℕ) : Type 0 where
  decimal : slice_index bytes 0 ≢ 48 → AreSomeDigits 10 bytes → number ≡ digits_number 10 bytes → SpellsNumber bytes number
  octal : slice_index bytes 0 ≡ 48 → AreSomeDigits 8 bytes → number ≡ digits_number 8 bytes → SpellsNumber bytes number
  hexadecimal : (x : ℕ) (digits : List ℕ) → bytes ≡ 48 ∷ x ∷ digits → (x ≡ 120) ⊎ (x ≡ 88) → AreSomeDigits 16 digits → number ≡ digits_number 16 digits → SpellsNumber bytes number

-- what may stand behind the digits: nothing, or `u` or `U` of a number without a sign
abbrev pub IsSuffix : List ℕ → Bool → Type 0
IsSuffix [] unsigned = unsigned ≡ false
IsSuffix (b ∷ []) unsigned = ((b ≡ 117) ⊎ (b ≡ 85)) × (unsigned ≡ true)
IsSuffix (b ∷ c ∷ bs) unsigned = ⊥

-- the bytes are digits of this number and a suffix
pub record IsNumber (bytes : List ℕ) (number : ℕ) (unsigned : Bool) : Type 0 where
  pub digits : List ℕ
  pub suffix : List ℕ
  pub bytes-are : bytes ≡ digits ++ suffix
  pub spelled : SpellsNumber digits number
  pub suffix-is : IsSuffix suffix unsigned

-- the greatest number that a token may have: 2^32 - 1
abbrev pub greatest_number : ℕ
greatest_number = 4294967295

-- The number that digits spell, digit by digit.
use Rattle.std.proofs.Common.{◌≡◌, ◌∙◌, refl, sym, ap, subst, ℕ, suc, ◌+◌, ◌*◌, ◌^◌, ◌<◌, inl, inr, ⊎_elim, Bool, true, false, List, [], ◌∷◌, ◌++◌, Option, None, Some, MatchOption, length, get_or, slice_index, take, drop, arith}
use Rattle.std.specs.Char.{digit_value}
use Rattle.std.proofs.Math.Nat.{le-mul_of_pos_right, pow-suc, pow-zero}
use Rattle.std.proofs.lemmas.Bool.{cases_lt}
use Rattle.std.proofs.lemmas.List.{append-nil, length_push, same_from_push, take_more}
use Rattle.hl_lexer.specs.Numbers.{AreSomeDigits, IsNumber, IsSuffix, SpellsNumber, decimal, digits_number, hexadecimal, octal}
use Rattle.hl_lexer.specs.Scanning.{SpellsCapped, SplitsSuffix, capped}
use Rattle.hl_lexer.proofs.NumberFacts.{IsBaseByte, octal_or_hexadecimal, spelled_end}

-- one more digit
pub digits_push : (base : ℕ) (xs : List ℕ) (b : ℕ) → digits_number base (xs ++ b ∷ []) ≡ digits_number base xs * base + digit_value b
digits_push base [] b = omega (arith, ap (λ z. digit_value b * z) (pow-zero base))
digits_push base (x ∷ xs) b =
    let before = digits_push base xs b in
    let longer : length (xs ++ b ∷ []) ≡ suc (length xs) = length_push xs b ∙ omega arith in
    let power = ap (λ n. base ^ n) longer ∙ pow-suc base (length xs) in
    omega (arith, before, ap (λ z. digit_value x * z) power)

-- a number that is too large stays so
pub capped_step : (v n base d : ℕ) → 0 < base → v ≡ capped n → capped (v * base + d) ≡ capped (n * base + d)
capped_step v n base d some e =
    ⊎_elim
    (λ small. let same : v ≡ n = omega arith in ap (λ z. capped (z * base + d)) same)
    (λ large.
    let same : v ≡ 4294967296 = omega arith in
    let one = le-mul_of_pos_right {m = base} 4294967296 some in
    let two = le-mul_of_pos_right {m = base} n some in
    omega (arith, ap (λ z. z * base) same))
    (cases_lt n 4294967296)

pub capped_more : (v base : ℕ) (digits : List ℕ) (i : ℕ) → 0 < base → i < length digits → v ≡ capped (digits_number base (take i digits)) → capped (v * base + digit_value (get_or digits i 0)) ≡ capped (digits_number base (take (i + 1) digits))
capped_more v base digits i some within e =
    capped_step v (digits_number base (take i digits)) base (digit_value (get_or digits i 0)) some e
    ∙ ap capped (sym (ap (digits_number base) (take_more digits i 0 within) ∙ digits_push base (take i digits) (get_or digits i 0)))

-- what stands behind `0x` is a number where it is digits
pub hexadecimal_given : (digits : List ℕ) → slice_index digits 0 ≡ 48 → IsBaseByte (slice_index digits 1) → (o : Option ℕ) →
    MatchOption o (¬ AreSomeDigits 16 (drop 2 digits)) (λ v. AreSomeDigits 16 (drop 2 digits) × (v ≡ capped (digits_number 16 (drop 2 digits)))) →
    MatchOption o ((n : ℕ) → ¬ SpellsNumber digits n) (SpellsCapped digits)
hexadecimal_given [] first base None h = absurd (omega (arith, first))
hexadecimal_given [] first base (Some v) h = absurd (omega (arith, first))
hexadecimal_given (a ∷ []) first base None h = absurd (no_base base)
  where
    no_base : IsBaseByte 0 → ⊥
    no_base (inl e) = omega (arith, e)
    no_base (inr e) = omega (arith, e)
hexadecimal_given (a ∷ []) first base (Some v) h = absurd (omega (arith, h.0.some))
hexadecimal_given (a ∷ x ∷ digits) first base None h = λ n spelled. only_hexadecimal n spelled
  where
    only_hexadecimal : (n : ℕ) → SpellsNumber (a ∷ x ∷ digits) n → ⊥
    only_hexadecimal n (decimal other some number) = other first
    only_hexadecimal n (octal zero some number) = octal_or_hexadecimal (a ∷ x ∷ digits) x digits some (ap (λ b. b ∷ x ∷ digits) first) base
    only_hexadecimal n (hexadecimal y others is mark some number) = let same : others ≡ digits = cc is in h (subst (AreSomeDigits 16) same some)
hexadecimal_given (a ∷ x ∷ digits) first base (Some v) h =
    (digits_number 16 digits, hexadecimal x digits (ap (λ b. b ∷ x ∷ digits) first) base h.0 refl, h.1)

-- without digits in front of the suffix there is no number
pub no_numeral : (bytes digits : List ℕ) (suffixed : Bool) → SplitsSuffix bytes digits suffixed → ((n : ℕ) → ¬ SpellsNumber digits n) → (n : ℕ) (unsigned : Bool) → ¬ IsNumber bytes n unsigned
no_numeral bytes digits true (b, suffix, e) none n unsigned h = otherwise h.digits h.suffix h.bytes-are h.spelled h.suffix-is
  where
    otherwise : (front end : List ℕ) → bytes ≡ front ++ end → SpellsNumber front n → IsSuffix end unsigned → ⊥
    otherwise front [] is spelled ends = spelled_end front digits b n spelled suffix (sym (is ∙ append-nil front) ∙ e)
    otherwise front (c ∷ []) is spelled ends = let same = (same_from_push digits front b c (sym e ∙ is)).0 in none n (subst (λ bs. SpellsNumber bs n) (sym same) spelled)
    otherwise front (c ∷ d ∷ ds) is spelled ends = ends
no_numeral bytes digits false (same, no_suffix) none n unsigned h = otherwise h.digits h.suffix h.bytes-are h.spelled h.suffix-is
  where
    otherwise : (front end : List ℕ) → bytes ≡ front ++ end → SpellsNumber front n → IsSuffix end unsigned → ⊥
    otherwise front [] is spelled ends = none n (subst (λ bs. SpellsNumber bs n) (sym (same ∙ (is ∙ append-nil front))) spelled)
    otherwise front (c ∷ []) is spelled ends = no_suffix front c ends.0 is
    otherwise front (c ∷ d ∷ ds) is spelled ends = ends

-- digits and their suffix are a number
pub some_numeral : (bytes digits : List ℕ) (suffixed : Bool) (value : ℕ) → SplitsSuffix bytes digits suffixed → SpellsCapped digits value → (number : ℕ) × IsNumber bytes number suffixed × (value ≡ capped number)
some_numeral bytes digits true value (b, suffix, e) (number, spelled, capped-is) =
    (number, record { digits = digits; suffix = b ∷ []; bytes-are = e; spelled = spelled; suffix-is = (suffix, refl) }, capped-is)
some_numeral bytes digits false value (same, no_suffix) (number, spelled, capped-is) =
    (number, record { digits = digits; suffix = []; bytes-are = sym same ∙ sym (append-nil digits); spelled = spelled; suffix-is = refl }, capped-is)

-- Numbers in decimal digits, as std reads them.
use Rattle.std.proofs.Common.{◌≡◌, ℕ, ◌<◌, ◌^◌, Bool, true, false, if◌then◌else◌, List, length, refl, sym, ap, ◌∙◌}
use Rattle.std.specs.Prelude.{◌&&◌, None, Some, Result, Ok, Err, nat_lt}
use Rattle.std.specs.Result.{OkIff, result_ok}
use Rattle.std.specs.Str.{all_ascii_digits}
use Rattle.std.specs.Str.Parse.{ParsesUnsigned, digits_value}
use Rattle.std.proofs.lemmas.Bool.Decides.{Decides-ltb}
use Rattle.std.proofs.lemmas.Str.Parse.{IsNumeralModel, numerals_by_value, parse_digits, tells_all_ascii_digits}
use Rattle.trace_driver.specs.Requests.{is_decimal, number_of}

own : IsNumeralModel (λ ds. all_ascii_digits ds ≡ true) (digits_value 10)
own = numerals_by_value (λ ds. all_ascii_digits ds ≡ true) tells_all_ascii_digits

-- both tests

both : {X : Type 0} (a b : Bool) (x y : X) → a ≡ true → b ≡ true → (if a && b then x else y) ≡ x
both true true x y p q = refl
both true false x y p q = absurd (cc q)
both false b x y p q = absurd (cc p)

not_second : {X : Type 0} (a b : Bool) (x y : X) → b ≡ false → (if a && b then x else y) ≡ y
not_second true true x y q = absurd (cc q)
not_second true false x y q = refl
not_second false b x y q = refl

not_first : {X : Type 0} (a b : Bool) (x y : X) → a ≡ false → (if a && b then x else y) ≡ y
not_first true b x y p = absurd (cc p)
not_first false b x y p = refl

right : (a b : Bool) → (a && b) ≡ true → b ≡ true
right true b e = e
right false b e = absurd (cc e)

left : (a b : Bool) → (a && b) ≡ true → a ≡ true
left true b e = refl
left false b e = absurd (cc e)

below : (a b : ℕ) → a < b → nat_lt a b ≡ true
below a b h = (Decides-ltb a b).1 h

not_below : (a b : ℕ) → ¬ (a < b) → nat_lt a b ≡ false
not_below a b h = by (nat_lt a b) refl where
  by : (t : Bool) → nat_lt a b ≡ t → t ≡ false
  by true e = absurd (h ((Decides-ltb a b).0 e))
  by false e = refl

-- what std reads in decimal digits is their number
pub parsed : {E : Type 0} (bits : ℕ) (text : List ℕ) (r : Result ℕ E) → ParsesUnsigned bits 10 text r → is_decimal text ≡ true → result_ok r ≡ number_of bits text
parsed bits text r parses decimal = by_answer r (parse_digits own bits text r parses (right (nat_lt 0 (length text)) (all_ascii_digits text) decimal)) where
  some : 0 < length text
  some = (Decides-ltb 0 (length text)).0 (left (nat_lt 0 (length text)) (all_ascii_digits text) decimal)

  by_answer : {E : Type 0} (answer : Result ℕ E) → OkIff answer ((0 < length text) × (digits_value 10 text < 2 ^ bits)) (digits_value 10 text) → result_ok answer ≡ number_of bits text
  by_answer (Ok n) ((some', within), same) =
      ap (λ (v : ℕ). Some v) same ∙ sym (both (is_decimal text) (nat_lt (digits_value 10 text) (2 ^ bits)) (Some (digits_value 10 text)) None decimal (below (digits_value 10 text) (2 ^ bits) within))
  by_answer (Err e) not =
      sym (not_second (is_decimal text) (nat_lt (digits_value 10 text) (2 ^ bits)) (Some (digits_value 10 text)) None (not_below (digits_value 10 text) (2 ^ bits) (λ within. not (some, within))))

-- no other text writes a number
pub no_number : (bits : ℕ) (text : List ℕ) → is_decimal text ≡ false → None ≡ number_of bits text
no_number bits text other = sym (not_first (is_decimal text) (nat_lt (digits_value 10 text) (2 ^ bits)) (Some (digits_value 10 text)) None other)

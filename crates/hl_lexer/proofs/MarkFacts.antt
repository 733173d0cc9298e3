-- The tables of marks.
use Rattle.std.proofs.Common.{◌≡◌, ◌≢◌, ◌∙◌, refl, sym, ap, ℕ, ◌+◌, ◌<◌, ◌≤◌, ⊎_elim, Bool, true, false, not, ◌&&◌, ◌||◌, ◌==◌, cond, List, [], ◌∷◌, ◌++◌, Option, None, Some, length, slice_index, unwrap_or, take, arith, nat_le, nat_lt}
use Rattle.std.specs.Char.{is_ascii_digit}
use Rattle.std.proofs.lemmas.Bool.{agree_below_at, and_parts, eqb-true, leb-true, ltb-true, or_cases}
use Rattle.std.proofs.lemmas.Option.{get_or_from_slice_get}
use Rattle.hl_lexer.specs.declared.class.Class.TheVariants.{Space, Letter, Digit, Mark}
use Rattle.hl_lexer.specs.declared.mark.TheConstants.{TWICE, TWICE_WITH_EQUALS, WITH_EQUALS}
use Rattle.hl_lexer.specs.Bytes.{is_letter, is_space_byte}
use Rattle.hl_lexer.specs.Scanning.{class_of, first_of, mark_class, number_in, number_or_none}
use Rattle.hl_lexer.specs.Spellings.{marks}
use Rattle.hl_lexer.specs.Tokens.{IsMark}
use Rattle.hl_lexer.proofs.ByteFacts.{implies}
use Rattle.hl_lexer.proofs.Lists.{each_at, number_stands, passes_at}
use Rattle.hl_lexer.proofs.TableFacts.{mark_number_is}

-- the number of a mark

pub mark_below : (n : ℕ) (bytes : List ℕ) → IsMark n bytes → n < 44
mark_below n bytes e =
    let at = each_at (λ k m. nat_lt k 44) 0 marks n bytes refl e in
    let below = ltb-true (n + 0) 44 at in
    omega arith

pub mark_is_number : (n : ℕ) (bytes : List ℕ) → IsMark n bytes → number_or_none bytes ≡ n
mark_is_number n bytes e = ap (λ o. unwrap_or o 255) (mark_number_is n bytes e)

pub mark_has_number : (n : ℕ) (bytes : List ℕ) → IsMark n bytes → number_or_none bytes ≡ 255 → ⊥
mark_has_number n bytes e none = let below = mark_below n bytes e in let same = mark_is_number n bytes e in omega arith

found_number : (o : Option ℕ) → unwrap_or o 255 ≢ 255 → o ≡ Some (unwrap_or o 255)
found_number None h = absurd (h refl)
found_number (Some n) h = refl

pub number_is_mark : (bytes : List ℕ) → number_or_none bytes ≢ 255 → IsMark (number_or_none bytes) bytes
number_is_mark bytes h = number_stands marks bytes (number_or_none bytes) (found_number (number_in marks bytes) h)

none_number : (bytes : List ℕ) → ((n : ℕ) → IsMark n bytes → ⊥) → (o : Option ℕ) → number_in marks bytes ≡ o → unwrap_or o 255 ≡ 255
none_number bytes h None e = refl
none_number bytes h (Some n) e = absurd (h n (number_stands marks bytes n e))

no_number : (bytes : List ℕ) → ((n : ℕ) → IsMark n bytes → ⊥) → number_or_none bytes ≡ 255
no_number bytes h = none_number bytes h (number_in marks bytes) refl

-- the shapes of marks

abbrev is_shaped : List ℕ → Bool
is_shaped [] = false
is_shaped (a ∷ []) = true
is_shaped (a ∷ b ∷ []) = (b == 61) || (b == a)
is_shaped (a ∷ b ∷ c ∷ []) = (c == 61) && (b == a)
is_shaped (a ∷ b ∷ c ∷ d ∷ bs) = false

shaped : (n : ℕ) (bytes : List ℕ) → IsMark n bytes → is_shaped bytes ≡ true
shaped n bytes e = passes_at is_shaped marks n bytes refl e

no_two : (n a b : ℕ) → b ≢ 61 → b ≢ a → IsMark n (a ∷ b ∷ []) → ⊥
no_two n a b h g e = ⊎_elim (λ p. h (eqb-true b 61 p)) (λ p. g (eqb-true b a p)) (or_cases (b == 61) (b == a) (shaped n (a ∷ b ∷ []) e))

pub other_two : (a b : ℕ) → b ≢ 61 → b ≢ a → number_or_none (a ∷ b ∷ []) ≡ 255
other_two a b h g = no_number (a ∷ b ∷ []) (λ n e. no_two n a b h g e)

pub other_third : (a b c : ℕ) → c ≢ 61 → number_or_none (a ∷ b ∷ c ∷ []) ≡ 255
other_third a b c h = no_number (a ∷ b ∷ c ∷ []) (λ n e. h (eqb-true c 61 (and_parts (c == 61) (b == a) (shaped n (a ∷ b ∷ c ∷ []) e)).0))

pub other_second : (a b c : ℕ) → b ≢ a → number_or_none (a ∷ b ∷ c ∷ []) ≡ 255
other_second a b c h = no_number (a ∷ b ∷ c ∷ []) (λ n e. h (eqb-true b a (and_parts (c == 61) (b == a) (shaped n (a ∷ b ∷ c ∷ []) e)).1))

-- the tables

pub twice_is : (n : ℕ) → n < 24 → slice_index TWICE n ≡ number_or_none (first_of n ∷ first_of n ∷ [])
twice_is n within = eqb-true _ _ (agree_below_at (λ m. slice_index TWICE m == number_or_none (first_of m ∷ first_of m ∷ [])) (λ m. true) 24 n refl within)

pub with_equals_is : (n : ℕ) → n < 24 → slice_index WITH_EQUALS n ≡ number_or_none (first_of n ∷ 61 ∷ [])
with_equals_is n within = eqb-true _ _ (agree_below_at (λ m. slice_index WITH_EQUALS m == number_or_none (first_of m ∷ 61 ∷ [])) (λ m. true) 24 n refl within)

pub twice_with_equals_is : (n : ℕ) → n < 24 → slice_index TWICE_WITH_EQUALS n ≡ number_or_none (first_of n ∷ first_of n ∷ 61 ∷ [])
twice_with_equals_is n within = eqb-true _ _ (agree_below_at (λ m. slice_index TWICE_WITH_EQUALS m == number_or_none (first_of m ∷ first_of m ∷ 61 ∷ [])) (λ m. true) 24 n refl within)

-- the mark of one byte

marked : (o : Option ℕ) (n : ℕ) → mark_class o ≡ Mark n → o ≡ Some n
marked None n e = cc
marked (Some m) n e = cc

class_marked : (letter digit space : Bool) (o : Option ℕ) (n : ℕ) → cond letter Letter (cond digit Digit (cond space Space (mark_class o))) ≡ Mark n → o ≡ Some n
class_marked true digit space o n e = cc
class_marked false true space o n e = cc
class_marked false false true o n e = cc
class_marked false false false o n e = marked o n e

pub class_is_mark : (b n : ℕ) → class_of b ≡ Mark n → IsMark n (b ∷ [])
class_is_mark b n e = number_stands marks (b ∷ []) n (class_marked (is_letter b) (is_ascii_digit b) (is_space_byte b) (number_in marks (b ∷ [])) n e)

pub single_below : (b n : ℕ) → class_of b ≡ Mark n → n < 24
single_below b n e =
    let at = each_at (λ k m. implies (length m == 1) (nat_lt k 24)) 0 marks n (b ∷ []) refl (class_is_mark b n e) in
    let below = ltb-true (n + 0) 24 at in
    omega arith

pub single_first : (b n : ℕ) → class_of b ≡ Mark n → first_of n ≡ b
single_first b n e = ap (λ bs. slice_index bs 0) (get_or_from_slice_get marks n (b ∷ []) [] (class_is_mark b n e))

-- marks at the front of a text

abbrev second_is_byte : List ℕ → Bool
second_is_byte (a ∷ b ∷ bs) = not (b == 0)
second_is_byte bs = true

no_zero : (n a : ℕ) → IsMark n (a ∷ 0 ∷ []) → ⊥
no_zero n a e = let p = passes_at second_is_byte marks n (a ∷ 0 ∷ []) refl e in cc

zero_second : (a : ℕ) → number_or_none (a ∷ 0 ∷ []) ≡ 255
zero_second a = no_number (a ∷ 0 ∷ []) (λ n e. no_zero n a e)

abbrev pub front_of_two : List ℕ → List ℕ
front_of_two rest = slice_index rest 0 ∷ slice_index rest 1 ∷ []

abbrev pub front_of_three : List ℕ → List ℕ
front_of_three rest = slice_index rest 0 ∷ slice_index rest 1 ∷ slice_index rest 2 ∷ []

zero : (n : ℕ) → n ≡ 0 → n ≢ 61
zero n e f = omega (arith, e, f)

pub two_within : (rest : List ℕ) → number_or_none (front_of_two rest) ≢ 255 → 2 ≤ length rest
two_within [] h = absurd (h (zero_second 0))
two_within (a ∷ []) h = absurd (h (zero_second a))
two_within (a ∷ b ∷ rest) h = omega arith

pub two_is_mark : (rest : List ℕ) → number_or_none (front_of_two rest) ≢ 255 → IsMark (number_or_none (front_of_two rest)) (take 2 rest)
two_is_mark [] h = absurd (h (zero_second 0))
two_is_mark (a ∷ []) h = absurd (h (zero_second a))
two_is_mark (a ∷ b ∷ rest) h = number_is_mark (a ∷ b ∷ []) h

pub three_within : (rest : List ℕ) → number_or_none (front_of_three rest) ≢ 255 → 3 ≤ length rest
three_within [] h = absurd (h (other_third 0 0 0 (zero 0 refl)))
three_within (a ∷ []) h = absurd (h (other_third a 0 0 (zero 0 refl)))
three_within (a ∷ b ∷ []) h = absurd (h (other_third a b 0 (zero 0 refl)))
three_within (a ∷ b ∷ c ∷ rest) h = omega arith

pub three_is_mark : (rest : List ℕ) → number_or_none (front_of_three rest) ≢ 255 → IsMark (number_or_none (front_of_three rest)) (take 3 rest)
three_is_mark [] h = absurd (h (other_third 0 0 0 (zero 0 refl)))
three_is_mark (a ∷ []) h = absurd (h (other_third a 0 0 (zero 0 refl)))
three_is_mark (a ∷ b ∷ []) h = absurd (h (other_third a b 0 (zero 0 refl)))
three_is_mark (a ∷ b ∷ c ∷ rest) h = number_is_mark (a ∷ b ∷ c ∷ []) h

pub one_is_mark : (single : ℕ) (rest : List ℕ) → 0 < length rest → class_of (slice_index rest 0) ≡ Mark single → IsMark single (take 1 rest)
one_is_mark single [] some e = absurd (omega arith)
one_is_mark single (a ∷ rest) some e = class_is_mark a single e

-- no mark is longer than one that was looked for last

pub at_most_three : (n : ℕ) (bytes : List ℕ) → IsMark n bytes → length bytes ≤ 3
at_most_three n bytes e = leb-true (length bytes) 3 (passes_at (λ m. nat_le (length m) 3) marks n bytes refl e)

pub at_most_two : (n : ℕ) (bytes after rest : List ℕ) → number_or_none (front_of_three rest) ≡ 255 → rest ≡ bytes ++ after → IsMark n bytes → length bytes ≤ 2
at_most_two n [] after rest none e mark = omega arith
at_most_two n (a ∷ []) after rest none e mark = omega arith
at_most_two n (a ∷ b ∷ []) after rest none e mark = omega arith
at_most_two n (a ∷ b ∷ c ∷ []) after rest none e mark = absurd (mark_has_number n (a ∷ b ∷ c ∷ []) mark (sym (ap (λ bs. number_or_none (front_of_three bs)) e) ∙ none))
at_most_two n (a ∷ b ∷ c ∷ d ∷ bs) after rest none e mark = let short = at_most_three n (a ∷ b ∷ c ∷ d ∷ bs) mark in absurd (omega arith)

pub at_most_one : (n : ℕ) (bytes after rest : List ℕ) → number_or_none (front_of_three rest) ≡ 255 → number_or_none (front_of_two rest) ≡ 255 → rest ≡ bytes ++ after → IsMark n bytes → length bytes ≤ 1
at_most_one n [] after rest none absent e mark = omega arith
at_most_one n (a ∷ []) after rest none absent e mark = omega arith
at_most_one n (a ∷ b ∷ []) after rest none absent e mark = absurd (mark_has_number n (a ∷ b ∷ []) mark (sym (ap (λ bs. number_or_none (front_of_two bs)) e) ∙ absent))
at_most_one n (a ∷ b ∷ c ∷ bs) after rest none absent e mark = let short = at_most_two n (a ∷ b ∷ c ∷ bs) after rest none e mark in absurd (omega arith)

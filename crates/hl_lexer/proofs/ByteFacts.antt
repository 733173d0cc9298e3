-- What the tests of bytes say of each other: each fact is tried at all bytes.
use Rattle.std.proofs.Common.{◌≡◌, refl, ℕ, ◌<◌, ◌≤◌, ⊎_elim, Bool, true, false, not, ◌&&◌, ◌||◌, ◌==◌, leb, arith}
use Rattle.std.specs.Char.{digit_value, is_ascii_alphabetic, is_ascii_digit, is_digit}
use Rattle.std.proofs.lemmas.Bool.{agree_below, agree_below_at, and_parts, cases_lt, eqb-true, leb-true, le-ltb, ltb-true, or_cases}
use Rattle.hl_lexer.specs.declared.class.Class.{Class}
use Rattle.hl_lexer.specs.declared.class.Class.TheVariants.{Other, Space, Letter, Digit, Mark}
use Rattle.hl_lexer.specs.Bytes.{is_letter, is_word_byte, is_line_feed, is_no_line_feed, is_space_byte}
use Rattle.hl_lexer.specs.Scanning.{class_of}

-- the classes by numbers
abbrev pub class_sort : Class → ℕ
class_sort Letter = 0
class_sort Digit = 1
class_sort (Mark number) = 2
class_sort Space = 3
class_sort Other = 4

abbrev pub implies : Bool → Bool → Bool
implies a c = not a || c

pub implied : (a c : Bool) → implies a c ≡ true → a ≡ true → c ≡ true
implied true c h e = h
implied false c h e = cc

-- a fact that is tried at each byte
tried : (a c : ℕ → Bool) (b : ℕ) → agree_below (λ n. implies (a n) (c n)) (λ n. true) 256 ≡ true → b < 256 → a b ≡ true → c b ≡ true
tried a c b all small e = implied (a b) (c b) (agree_below_at (λ n. implies (a n) (c n)) (λ n. true) 256 b all small) e

-- tests that pass at bytes alone

range_small : (low high b : ℕ) → (leb low b && leb b high) ≡ true → high < 256 → b < 256
range_small low high b e h = let p = leb-true b high (and_parts (leb low b) (leb b high) e).1 in omega arith

pub letter_small : (b : ℕ) → is_letter b ≡ true → b < 256
letter_small b e =
    ⊎_elim
    (λ alphabetic. ⊎_elim (λ upper. range_small 65 90 b upper (omega arith)) (λ lower. range_small 97 122 b lower (omega arith)) (or_cases _ _ alphabetic))
    (λ line. let p = eqb-true b 95 line in omega arith)
    (or_cases (is_ascii_alphabetic b) (b == 95) e)

pub digit_small : (b : ℕ) → is_ascii_digit b ≡ true → b < 256
digit_small b e = range_small 48 57 b e (omega arith)

pub space_small : (b : ℕ) → is_space_byte b ≡ true → b < 256
space_small b e =
    ⊎_elim (λ h. let p = eqb-true b 32 h in omega arith)
    (λ one. ⊎_elim (λ h. let p = eqb-true b 9 h in omega arith)
    (λ two. ⊎_elim (λ h. let p = eqb-true b 13 h in omega arith)
    (λ h. let p = eqb-true b 10 h in omega arith)
    (or_cases (b == 13) (is_line_feed b) two))
    (or_cases (b == 9) ((b == 13) || is_line_feed b) one))
    (or_cases (b == 32) ((b == 9) || ((b == 13) || is_line_feed b)) e)

pub word_byte_small : (b : ℕ) → is_word_byte b ≡ true → b < 256
word_byte_small b e = ⊎_elim (letter_small b) (digit_small b) (or_cases (is_letter b) (is_ascii_digit b) e)

value_of_large : (b : ℕ) → 123 ≤ b → digit_value b ≡ 36
value_of_large b h =
    rw (le-ltb b 48 (omega arith), le-ltb b 58 (omega arith), le-ltb b 65 (omega arith), le-ltb b 91 (omega arith), le-ltb b 97 (omega arith), le-ltb b 123 h) refl

pub based_small : (base b : ℕ) → base ≤ 36 → is_digit b base ≡ true → b < 256
based_small base b h e =
    let low = ltb-true (digit_value b) base e in
    ⊎_elim (λ small. omega arith) (λ large. let v = value_of_large b large in absurd (omega arith)) (cases_lt b 123)

-- classes

sort_at : (test : ℕ → Bool) (sort b : ℕ) → agree_below (λ n. implies (test n) (class_sort (class_of n) == sort)) (λ n. true) 256 ≡ true → b < 256 → test b ≡ true → class_sort (class_of b) ≡ sort
sort_at test sort b all small e =
    eqb-true (class_sort (class_of b)) sort (tried test (λ n. class_sort (class_of n) == sort) b all small e)

pub letter_sort : (b : ℕ) → is_letter b ≡ true → class_sort (class_of b) ≡ 0
letter_sort b e = sort_at is_letter 0 b refl (letter_small b e) e

pub digit_sort : (b : ℕ) → is_ascii_digit b ≡ true → class_sort (class_of b) ≡ 1
digit_sort b e = sort_at is_ascii_digit 1 b refl (digit_small b e) e

pub space_sort : (b : ℕ) → is_space_byte b ≡ true → class_sort (class_of b) ≡ 3
space_sort b e = sort_at is_space_byte 3 b refl (space_small b e) e

-- letters, digits and `_`

pub on_line : (b : ℕ) → is_word_byte b ≡ true → is_no_line_feed b ≡ true
on_line b e = tried is_word_byte is_no_line_feed b refl (word_byte_small b e) e

pub decimal_digit : (b : ℕ) → is_digit b 10 ≡ true → is_ascii_digit b ≡ true
decimal_digit b e = tried (λ n. is_digit n 10) is_ascii_digit b refl (based_small 10 b (omega arith) e) e

pub octal_word_byte : (b : ℕ) → is_digit b 8 ≡ true → is_word_byte b ≡ true
octal_word_byte b e = tried (λ n. is_digit n 8) is_word_byte b refl (based_small 8 b (omega arith) e) e

pub decimal_word_byte : (b : ℕ) → is_digit b 10 ≡ true → is_word_byte b ≡ true
decimal_word_byte b e = tried (λ n. is_digit n 10) is_word_byte b refl (based_small 10 b (omega arith) e) e

pub hexadecimal_word_byte : (b : ℕ) → is_digit b 16 ≡ true → is_word_byte b ≡ true
hexadecimal_word_byte b e = tried (λ n. is_digit n 16) is_word_byte b refl (based_small 16 b (omega arith) e) e

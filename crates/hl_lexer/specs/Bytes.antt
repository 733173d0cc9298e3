-- The bytes that tokens and spaces are made of. Letters and digits are those of ASCII.
use Rattle.std.specs.Prelude.{◌≡◌, ℕ, Bool, false, not, ◌||◌, ◌==◌, List, [], ◌∷◌}
use Rattle.std.specs.Char.{is_ascii_alphabetic, is_ascii_digit}

-- a letter or `_`, with which a name begins
abbrev pub is_letter : ℕ → Bool
is_letter b = is_ascii_alphabetic b || (b == 95)

-- a letter, a digit or `_`, with which names and numbers go on
abbrev pub is_word_byte : ℕ → Bool
is_word_byte b = is_letter b || is_ascii_digit b

-- a line feed, with which a line ends
abbrev pub is_line_feed : ℕ → Bool
is_line_feed b = b == 10

abbrev pub is_no_line_feed : ℕ → Bool
is_no_line_feed b = not (is_line_feed b)

-- space, tab, carriage return or line feed
abbrev pub is_space_byte : ℕ → Bool
is_space_byte b = (b == 32) || ((b == 9) || ((b == 13) || is_line_feed b))

-- a run of bytes that pass the test doesn't go on: here is the end, or a byte that doesn't pass
abbrev pub Ends : (ℕ → Bool) → List ℕ → Type 0
Ends test [] = Unit {0}
Ends test (b ∷ rest) = test b ≡ false

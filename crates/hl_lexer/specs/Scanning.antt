-- Words of the functions that read the piece at the front of a text.
use Rattle.std.specs.Prelude.{◌≡◌, ℕ, ◌+◌, ◌*◌, ◌-◌, ◌%◌, ◌<◌, ◌≤◌, min, Bool, true, false, if◌then◌else◌, List, [], ◌∷◌, ◌++◌, Option, None, Some, length, take, drop, slice_index, slice_index_or, unwrap_or, ◌⊎◌}
use Rattle.std.specs.Char.{is_ascii_digit}
use Rattle.std.specs.List.{position}
use Rattle.std.specs.Str.{bytes_eq}
use Rattle.hl_lexer.specs.declared.class.Class.{Class}
use Rattle.hl_lexer.specs.declared.class.Class.TheVariants.{Other, Space, Letter, Digit, Mark}
use Rattle.hl_lexer.specs.declared.front.Front.{Front}
use Rattle.hl_lexer.specs.declared.front.Front.TheVariants as fronts
use Rattle.hl_lexer.specs.declared.number.Numeral.{Numeral}
use Rattle.hl_lexer.specs.declared.space.Comment.{Comment}
use Rattle.hl_lexer.specs.declared.space.Comment.TheVariants.{Absent, Closed, Unclosed}
use Rattle.hl_lexer.specs.declared.token.TokenKind.{TokenKind}
use Rattle.hl_lexer.specs.Bytes.{is_letter, is_space_byte}
use Rattle.hl_lexer.specs.Numbers.{IsNumber, SpellsNumber}
use Rattle.hl_lexer.specs.Spellings.{marks}
use Rattle.hl_lexer.specs.Tokens.{BeginsComment, BeginsLargeNumber, HasRoom, IsSpace, IsToken}

-- the number of a spelling in a list of spellings
abbrev pub number_in : List (List ℕ) → List ℕ → Option ℕ
number_in spellings bytes = position (λ spelling. bytes_eq spelling bytes) spellings

-- classes of bytes

abbrev pub mark_class : Option ℕ → Class
mark_class None = Other
mark_class (Some number) = Mark number

-- what a piece can be that begins with a byte
abbrev pub class_of : ℕ → Class
class_of b =
    if is_letter b then Letter
    else (if is_ascii_digit b then Digit
    else (if is_space_byte b then Space
    else mark_class (number_in marks (b ∷ []))))

-- words

-- the slot of a text among 128, which differs from word to word
abbrev pub word_slot : List ℕ → ℕ
word_slot bytes =
    (length bytes + 5 * slice_index bytes 0 + 2 * slice_index bytes (length bytes - 1)) % 128

-- marks

-- the byte of a mark of one byte
abbrev pub first_of : ℕ → ℕ
first_of single = slice_index (slice_index_or marks single []) 0

-- the number of a mark, or 255 where the bytes are none
abbrev pub number_or_none : List ℕ → ℕ
number_or_none bytes = unwrap_or (number_in marks bytes) 255

-- numbers

-- a number, or 2^32 where it is larger
abbrev pub capped : ℕ → ℕ
capped number = min number 4294967296

abbrev pub SpellsCapped : List ℕ → ℕ → Type 0
SpellsCapped digits value = (number : ℕ) × SpellsNumber digits number × (value ≡ capped number)

abbrev pub NumeralIs : List ℕ → Numeral → Type 0
NumeralIs bytes numeral = (number : ℕ) × IsNumber bytes number numeral.unsigned × (numeral.value ≡ capped number)

-- the bytes end in a suffix and begin with these, or they end in none
abbrev pub SplitsSuffix : List ℕ → List ℕ → Bool → Type 0
SplitsSuffix bytes digits true = (b : ℕ) × ((b ≡ 117) ⊎ (b ≡ 85)) × (bytes ≡ digits ++ b ∷ [])
SplitsSuffix bytes digits false =
    (digits ≡ bytes) × ((front : List ℕ) (b : ℕ) → (b ≡ 117) ⊎ (b ≡ 85) → bytes ≡ front ++ b ∷ [] → ⊥)

-- comments

-- `*/` stands at an index
abbrev pub ClosesAt : List ℕ → ℕ → Type 0
ClosesAt bytes index = (slice_index bytes index ≡ 42) × (slice_index bytes (index + 1) ≡ 47)

-- `*/` stands nowhere
abbrev pub NoClosing : List ℕ → Type 0
NoClosing bytes = (front back : List ℕ) → bytes ≡ front ++ 42 ∷ 47 ∷ back → ⊥

-- the first `*/` stands behind n bytes
pub record FirstClosing (bytes : List ℕ) (n : ℕ) : Type 0 where
  pub within : n + 2 ≤ length bytes
  pub here : bytes ≡ take n bytes ++ 42 ∷ 47 ∷ drop (n + 2) bytes
  pub first : (front back : List ℕ) → bytes ≡ front ++ 42 ∷ 47 ∷ back → n ≤ length front

-- the text begins with a space of this many bytes
pub record HasSpace (rest : List ℕ) (n : ℕ) : Type 0 where
  pub some : 0 < n
  pub within : n ≤ length rest
  pub space : IsSpace (take n rest) (drop n rest)

abbrev pub BeginsNoSpace : List ℕ → Type 0
BeginsNoSpace rest = (bytes after : List ℕ) → rest ≡ bytes ++ after → ¬ IsSpace bytes after

abbrev pub CommentIs : List ℕ → Comment → Type 0
CommentIs rest Absent = ¬ BeginsComment rest
CommentIs rest (Closed n) = HasSpace rest n
CommentIs rest Unclosed = BeginsComment rest × BeginsNoSpace rest

-- pieces

-- the text begins with a token of this many bytes
pub record HasToken (rest : List ℕ) (kind : TokenKind) (n : ℕ) : Type 0 where
  pub some : 0 < n
  pub within : n ≤ length rest
  pub token : IsToken kind (take n rest) (drop n rest)
  pub room : HasRoom kind

abbrev pub BeginsNoToken : List ℕ → Type 0
BeginsNoToken rest = (kind : TokenKind) (bytes after : List ℕ) → rest ≡ bytes ++ after → ¬ IsToken kind bytes after

abbrev pub FrontIs : List ℕ → Front → Type 0
FrontIs rest (fronts.Space n) = HasSpace rest n
FrontIs rest (fronts.Token kind n) = HasToken rest kind n
FrontIs rest fronts.TooLarge = BeginsLargeNumber rest
FrontIs rest fronts.Nothing = BeginsNoSpace rest × BeginsNoToken rest

-- The tokens of a text.
--
-- A text is cut into pieces: tokens, and spaces before, between and after them. At each place the
-- longest token that begins there is taken. Where a comment begins no token does.
use Rattle.std.specs.Prelude.{◌≡◌, ℕ, ◌+◌, ◌<◌, ◌≤◌, Bool, ◌⊎◌, true, List, [], ◌∷◌, ◌++◌, length, map, slice_get, slice_range, Some, codes}
use Rattle.std.specs.List.{AllPass, count_by, after_last}
use Rattle.std.specs.declared.result.Result.{Result}
use Rattle.std.specs.declared.result.Result.TheVariants.{Ok, Err}
use Rattle.base_core.specs.declared.place.Place.{Place}
use Rattle.hl_lexer.specs.declared.token.TokenKind.{TokenKind}
use Rattle.hl_lexer.specs.declared.token.TokenKind.TheVariants.{Name, Word, Number, Mark}
use Rattle.hl_lexer.specs.declared.token.Token.{Token}
use Rattle.hl_lexer.specs.declared.token.Tokens.{Tokens}
use Rattle.hl_lexer.specs.declared.fault.LexFault.{LexFault}
use Rattle.hl_lexer.specs.declared.fault.LexFault.TheVariants.{BadByte, NumberTooLarge, TooManyTokens, Memory}
use Rattle.hl_lexer.specs.Bytes.{is_letter, is_word_byte, is_line_feed, is_no_line_feed, is_space_byte, Ends}
use Rattle.hl_lexer.specs.Numbers.{IsNumber, greatest_number}
use Rattle.hl_lexer.specs.Spellings.{words, marks}

-- the most tokens that are read
abbrev pub most_tokens : ℕ
most_tokens = 262144

-- the place of the byte that stands behind these bytes of a text: lines and columns are counted from 1,
-- a line ends at a line feed, and a column is a byte
abbrev pub place_after : List ℕ → Place
place_after before = record {
  line = count_by is_line_feed before + 1;
  column = length (after_last is_line_feed before) + 1;
}

-- the forms of tokens

-- the word of a number
abbrev pub IsWord : ℕ → List ℕ → Type 0
IsWord number bytes = slice_get words number ≡ Some bytes

-- the mark of a number
abbrev pub IsMark : ℕ → List ℕ → Type 0
IsMark number bytes = slice_get marks number ≡ Some bytes

-- a letter or `_`, then letters, digits and `_`, and no word
abbrev pub IsName : List ℕ → Type 0
IsName [] = ⊥
IsName (b ∷ bs) = (is_letter b ≡ true) × AllPass is_word_byte bs × ((number : ℕ) → ¬ IsWord number (b ∷ bs))

-- the bytes, with these bytes behind them, have the form of a token of this kind. A number takes all the
-- letters, digits and `_` that follow its first digit
abbrev pub IsForm : TokenKind → List ℕ → List ℕ → Type 0
IsForm Name bytes after = IsName bytes
IsForm (Word number) bytes after = IsWord number bytes
IsForm (Number value unsigned) bytes after = IsNumber bytes value unsigned × Ends is_word_byte after
IsForm (Mark number) bytes after = IsMark number bytes

-- spaces

-- here a comment begins: `//` or `/*`, where 47 is `/` and 42 is `*`
abbrev pub BeginsComment : List ℕ → Type 0
BeginsComment [] = ⊥
BeginsComment (a ∷ []) = ⊥
BeginsComment (a ∷ b ∷ rest) = (a ≡ 47) × ((b ≡ 47) ⊎ (b ≡ 42))

-- the bytes, with these bytes behind them, are a space: a single byte, a comment from `//` up to the line
-- feed or the end, or a comment from `/*` up to the next `*/`
pub data IsSpace (bytes after : List ℕ) : Type 0 where
  a_byte : (b : ℕ) → is_space_byte b ≡ true → bytes ≡ b ∷ [] → IsSpace bytes after
  a_line : (body : List ℕ) → bytes ≡ codes "//" ++ body → AllPass is_no_line_feed body → Ends is_no_line_feed after → IsSpace bytes after
  a_block : (body : List ℕ) → bytes ≡ codes "/*" ++ (body ++ codes "*/") → ((front back : List ℕ) → body ++ (codes "*/" ++ after) ≡ front ++ (codes "*/" ++ back) → length body ≤ length front) → IsSpace bytes after

-- pieces

-- the bytes, with these bytes behind them, are the token of this kind that begins here
pub record IsToken (kind : TokenKind) (bytes after : List ℕ) : Type 0 where
  pub form : IsForm kind bytes after
  pub longest : (other : TokenKind) (front back : List ℕ) → front ++ back ≡ bytes ++ after → IsForm other front back → length front ≤ length bytes
  pub no_comment : ¬ BeginsComment (bytes ++ after)

-- a piece of a text: the byte-order mark, a space or a token
pub data Piece : Type 0 where
  order_mark : Piece
  a_space : List ℕ → Piece
  a_token : TokenKind → List ℕ → Piece

abbrev pub bytes_of : Piece → List ℕ
bytes_of order_mark = 239 ∷ 187 ∷ 191 ∷ []
bytes_of (a_space bytes) = bytes
bytes_of (a_token kind bytes) = bytes

-- the piece may stand behind the bytes before it, in front of those after it. The byte-order mark stands
-- at the start alone
abbrev pub MayStand : List ℕ → Piece → List ℕ → Type 0
MayStand before order_mark after = before ≡ []
MayStand before (a_space bytes) after = IsSpace bytes after
MayStand before (a_token kind bytes) after = IsToken kind bytes after

-- a number is at most the greatest one
abbrev pub HasRoom : TokenKind → Type 0
HasRoom Name = Unit {0}
HasRoom (Word number) = Unit {0}
HasRoom (Number value unsigned) = value ≤ greatest_number
HasRoom (Mark number) = Unit {0}

abbrev pub PieceHasRoom : Piece → Type 0
PieceHasRoom order_mark = Unit {0}
PieceHasRoom (a_space bytes) = Unit {0}
PieceHasRoom (a_token kind bytes) = HasRoom kind

-- behind the bytes before it, a text is these pieces in order, up to a rest
abbrev pub IsCut : List ℕ → List Piece → List ℕ → List ℕ → Type 0
IsCut before [] text rest = text ≡ rest
IsCut before (piece ∷ pieces) text rest =
    (after : List ℕ)
    × (text ≡ bytes_of piece ++ after)
    × MayStand before piece after
    × PieceHasRoom piece
    × IsCut (before ++ bytes_of piece) pieces after rest

-- tokens

-- a token without where its text lies in memory
pub record Lexeme : Type 0 where
  pub kind : TokenKind
  pub text : List ℕ
  pub start : ℕ
  pub place : Place

abbrev pub lexeme_of : Token → Lexeme
lexeme_of token = record { kind = token.kind; text = token.text.now; start = token.start; place = token.place }

-- the tokens among pieces that stand behind these bytes, each with its start and its place
abbrev pub lexemes : List ℕ → List Piece → List Lexeme
lexemes before [] = []
lexemes before (order_mark ∷ pieces) = lexemes (before ++ bytes_of order_mark) pieces
lexemes before (a_space bytes ∷ pieces) = lexemes (before ++ bytes) pieces
lexemes before (a_token kind bytes ∷ pieces) =
    record { kind = kind; text = bytes; start = length before; place = place_after before }
    ∷ lexemes (before ++ bytes) pieces

-- the tokens of a whole text, and the place of its end
pub record IsTokenList (text : List ℕ) (tokens : List Lexeme) (end : Place) : Type 0 where
  pub pieces : List Piece
  pub cut : IsCut [] pieces text []
  pub tokens-are : tokens ≡ lexemes [] pieces
  pub end-is : end ≡ place_after text

-- a token's bytes are those of the text from its start on
abbrev pub IsPartOf : List ℕ → Lexeme → Type 0
IsPartOf text token = slice_range text token.start (token.start + length token.text) ≡ token.text

-- faults

-- here a token begins
pub record BeginsToken (rest : List ℕ) : Type 0 where
  pub kind : TokenKind
  pub bytes : List ℕ
  pub after : List ℕ
  pub rest-is : rest ≡ bytes ++ after
  pub token : IsToken kind bytes after

-- here no piece begins
abbrev pub BeginsNothing : List ℕ → List ℕ → Type 0
BeginsNothing before rest = (piece : Piece) (after : List ℕ) → rest ≡ bytes_of piece ++ after → ¬ MayStand before piece after

-- here a number begins that is above the greatest one
pub record BeginsLargeNumber (rest : List ℕ) : Type 0 where
  pub value : ℕ
  pub unsigned : Bool
  pub bytes : List ℕ
  pub after : List ℕ
  pub rest-is : rest ≡ bytes ++ after
  pub token : IsToken (Number value unsigned) bytes after
  pub large : greatest_number < value

-- the fault that stands behind these bytes and this many tokens, where the text goes on with `rest`
abbrev pub FaultAt : List ℕ → ℕ → List ℕ → LexFault → Type 0
FaultAt before count rest (BadByte place) = (place ≡ place_after before) × (0 < length rest) × BeginsNothing before rest
FaultAt before count rest (NumberTooLarge place) = (place ≡ place_after before) × (count < most_tokens) × BeginsLargeNumber rest
FaultAt before count rest TooManyTokens = (count ≡ most_tokens) × BeginsToken rest
FaultAt before count rest Memory = ⊥

-- the fault that stands at the first place of a text where the cut into pieces doesn't go on
pub record IsFirstFault (text : List ℕ) (fault : LexFault) : Type 0 where
  pub pieces : List Piece
  pub before : List ℕ
  pub rest : List ℕ
  pub text-is : text ≡ before ++ rest
  pub cut : IsCut [] pieces text rest
  pub within : length (lexemes [] pieces) ≤ most_tokens
  pub here : FaultAt before (length (lexemes [] pieces)) rest fault

-- answers

-- the tokens of an answer, without where their texts lie in memory
abbrev pub lexemes_of : Tokens → List Lexeme
lexemes_of found = map lexeme_of found.list

-- the answer is these tokens and this end, or memory ran out
abbrev pub GivesTokens : Result Tokens LexFault → List Lexeme → Place → Type 0
GivesTokens (Ok found) tokens end = (lexemes_of found ≡ tokens) × (found.end ≡ end)
GivesTokens (Err Memory) tokens end = Unit {0}
GivesTokens (Err (BadByte place)) tokens end = ⊥
GivesTokens (Err (NumberTooLarge place)) tokens end = ⊥
GivesTokens (Err TooManyTokens) tokens end = ⊥

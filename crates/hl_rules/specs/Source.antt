-- The tokens of a source, each by its index.
use Rattle.std.specs.Prelude.{ℕ, Bool, false, List, [], map, option_map, slice_get, unwrap_or}
use Rattle.hl_lexer.specs.declared.terminal.Terminal.{Terminal}
use Rattle.hl_lexer.specs.declared.terminal.Terminal.TheVariants as terminals
use Rattle.hl_lexer.specs.declared.token.TokenKind.{TokenKind}
use Rattle.hl_lexer.specs.declared.token.TokenKind.TheVariants as kinds
use Rattle.hl_lexer.specs.Terminals.{terminal_of}
use Rattle.hl_lexer.specs.Tokens.{Lexeme}

-- what a kind of tokens says: its number, whether the number has the suffix `u` or `U`, and the number of a mark
abbrev pub number_of : TokenKind → ℕ
number_of kinds.Name = 0
number_of (kinds.Word number) = 0
number_of (kinds.Number value unsigned) = value
number_of (kinds.Mark number) = 0

abbrev pub is_unsigned : TokenKind → Bool
is_unsigned kinds.Name = false
is_unsigned (kinds.Word number) = false
is_unsigned (kinds.Number value unsigned) = unsigned
is_unsigned (kinds.Mark number) = false

abbrev pub mark_of : TokenKind → ℕ
mark_of kinds.Name = 0
mark_of (kinds.Word number) = 0
mark_of (kinds.Number value unsigned) = 0
mark_of (kinds.Mark number) = number

-- what tokens are for the grammar
abbrev pub terminals_of : List Lexeme → List Terminal
terminals_of tokens = map (λ token. terminal_of token.kind) tokens

-- the bytes of the token of an index
abbrev pub text_at : List Lexeme → ℕ → List ℕ
text_at tokens index = unwrap_or (option_map (λ token. token.text) (slice_get tokens index)) []

-- what it is for the grammar
abbrev pub terminal_at : List Lexeme → ℕ → Terminal
terminal_at tokens index = unwrap_or (option_map (λ token. terminal_of token.kind) (slice_get tokens index)) terminals.Unlisted

-- its number
abbrev pub number_at : List Lexeme → ℕ → ℕ
number_at tokens index = unwrap_or (option_map (λ token. number_of token.kind) (slice_get tokens index)) 0

-- whether it is a number without a sign by its suffix
abbrev pub is_unsigned_at : List Lexeme → ℕ → Bool
is_unsigned_at tokens index = unwrap_or (option_map (λ token. is_unsigned token.kind) (slice_get tokens index)) false

-- the number of the mark
abbrev pub mark_at : List Lexeme → ℕ → ℕ
mark_at tokens index = unwrap_or (option_map (λ token. mark_of token.kind) (slice_get tokens index)) 0

-- What tokens are for a grammar. The lists have the order of the words and the marks.
use Rattle.std.specs.Prelude.{List, [], ◌∷◌, slice_index_or}
use Rattle.hl_lexer.specs.declared.terminal.Terminal.{Terminal}
use Rattle.hl_lexer.specs.declared.terminal.Terminal.TheVariants.{Void, Bool, Int, Uint, Bool2, Bool3, Bool4, Int2, Int3, Int4, Uint2, Uint3, Uint4, Struct, Static, Const, Groupshared, In, Out, Inout, If, Else, For, While, Do, Break, Continue, Return, True, False, Register, ByteAddressBuffer, RwByteAddressBuffer, StructuredBuffer, RwStructuredBuffer, OpenParenthesis, CloseParenthesis, OpenBrace, CloseBrace, OpenBracket, CloseBracket, Semicolon, Comma, Dot, Colon, Question, Equals, Plus, Minus, Star, Slash, Percent, Less, Greater, Exclamation, Tilde, Ampersand, Bar, Caret, AmpersandAmpersand, BarBar, EqualsEquals, ExclamationEquals, LessEquals, GreaterEquals, LessLess, GreaterGreater, PlusEquals, MinusEquals, StarEquals, SlashEquals, PercentEquals, AmpersandEquals, BarEquals, CaretEquals, LessLessEquals, GreaterGreaterEquals, PlusPlus, MinusMinus, Unlisted}
use Rattle.hl_lexer.specs.declared.terminal.Terminal.TheVariants as terminals
use Rattle.hl_lexer.specs.declared.token.TokenKind.{TokenKind}
use Rattle.hl_lexer.specs.declared.token.TokenKind.TheVariants as kinds

-- the terminal of each word
abbrev pub word_terminals : List Terminal
word_terminals =
    Void ∷ Bool ∷ Int ∷ Uint ∷ Bool2 ∷ Bool3 ∷ Bool4 ∷ Int2 ∷ Int3 ∷ Int4 ∷ Uint2 ∷ Uint3
    ∷ Uint4 ∷ Struct ∷ Static ∷ Const ∷ Groupshared ∷ In ∷ Out ∷ Inout ∷ If ∷ Else ∷ For ∷ While
    ∷ Do ∷ Break ∷ Continue ∷ Return ∷ True ∷ False ∷ Register ∷ ByteAddressBuffer
    ∷ RwByteAddressBuffer ∷ StructuredBuffer ∷ RwStructuredBuffer ∷ []

-- the terminal of each mark
abbrev pub mark_terminals : List Terminal
mark_terminals =
    OpenParenthesis ∷ CloseParenthesis ∷ OpenBrace ∷ CloseBrace ∷ OpenBracket ∷ CloseBracket
    ∷ Semicolon ∷ Comma ∷ Dot ∷ Colon ∷ Question ∷ Equals ∷ Plus ∷ Minus ∷ Star ∷ Slash
    ∷ Percent ∷ Less ∷ Greater ∷ Exclamation ∷ Tilde ∷ Ampersand ∷ Bar ∷ Caret
    ∷ AmpersandAmpersand ∷ BarBar ∷ EqualsEquals ∷ ExclamationEquals ∷ LessEquals
    ∷ GreaterEquals ∷ LessLess ∷ GreaterGreater ∷ PlusEquals ∷ MinusEquals ∷ StarEquals
    ∷ SlashEquals ∷ PercentEquals ∷ AmpersandEquals ∷ BarEquals ∷ CaretEquals ∷ LessLessEquals
    ∷ GreaterGreaterEquals ∷ PlusPlus ∷ MinusMinus ∷ []

-- what a token of a kind is for a grammar
abbrev pub terminal_of : TokenKind → Terminal
terminal_of kinds.Name = terminals.Name
terminal_of (kinds.Number value unsigned) = terminals.Number
terminal_of (kinds.Word number) = slice_index_or word_terminals number Unlisted
terminal_of (kinds.Mark number) = slice_index_or mark_terminals number Unlisted

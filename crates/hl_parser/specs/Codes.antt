-- Terminals by numbers, which tells them apart.
use Rattle.std.specs.Prelude.{ℕ, Bool, eqb, List, [], ◌∷◌}
use Rattle.hl_lexer.specs.declared.terminal.Terminal.{Terminal}
use Rattle.hl_lexer.specs.declared.terminal.Terminal.TheVariants as terminals

-- the number of a terminal
abbrev pub code_of : Terminal → ℕ
code_of terminals.Name = 0
code_of terminals.Number = 1
code_of terminals.Void = 2
code_of terminals.Bool = 3
code_of terminals.Int = 4
code_of terminals.Uint = 5
code_of terminals.Bool2 = 6
code_of terminals.Bool3 = 7
code_of terminals.Bool4 = 8
code_of terminals.Int2 = 9
code_of terminals.Int3 = 10
code_of terminals.Int4 = 11
code_of terminals.Uint2 = 12
code_of terminals.Uint3 = 13
code_of terminals.Uint4 = 14
code_of terminals.Struct = 15
code_of terminals.Static = 16
code_of terminals.Const = 17
code_of terminals.Groupshared = 18
code_of terminals.In = 19
code_of terminals.Out = 20
code_of terminals.Inout = 21
code_of terminals.If = 22
code_of terminals.Else = 23
code_of terminals.For = 24
code_of terminals.While = 25
code_of terminals.Do = 26
code_of terminals.Break = 27
code_of terminals.Continue = 28
code_of terminals.Return = 29
code_of terminals.True = 30
code_of terminals.False = 31
code_of terminals.Register = 32
code_of terminals.ByteAddressBuffer = 33
code_of terminals.RwByteAddressBuffer = 34
code_of terminals.StructuredBuffer = 35
code_of terminals.RwStructuredBuffer = 36
code_of terminals.OpenParenthesis = 37
code_of terminals.CloseParenthesis = 38
code_of terminals.OpenBrace = 39
code_of terminals.CloseBrace = 40
code_of terminals.OpenBracket = 41
code_of terminals.CloseBracket = 42
code_of terminals.Semicolon = 43
code_of terminals.Comma = 44
code_of terminals.Dot = 45
code_of terminals.Colon = 46
code_of terminals.Question = 47
code_of terminals.Equals = 48
code_of terminals.Plus = 49
code_of terminals.Minus = 50
code_of terminals.Star = 51
code_of terminals.Slash = 52
code_of terminals.Percent = 53
code_of terminals.Less = 54
code_of terminals.Greater = 55
code_of terminals.Exclamation = 56
code_of terminals.Tilde = 57
code_of terminals.Ampersand = 58
code_of terminals.Bar = 59
code_of terminals.Caret = 60
code_of terminals.AmpersandAmpersand = 61
code_of terminals.BarBar = 62
code_of terminals.EqualsEquals = 63
code_of terminals.ExclamationEquals = 64
code_of terminals.LessEquals = 65
code_of terminals.GreaterEquals = 66
code_of terminals.LessLess = 67
code_of terminals.GreaterGreater = 68
code_of terminals.PlusEquals = 69
code_of terminals.MinusEquals = 70
code_of terminals.StarEquals = 71
code_of terminals.SlashEquals = 72
code_of terminals.PercentEquals = 73
code_of terminals.AmpersandEquals = 74
code_of terminals.BarEquals = 75
code_of terminals.CaretEquals = 76
code_of terminals.LessLessEquals = 77
code_of terminals.GreaterGreaterEquals = 78
code_of terminals.PlusPlus = 79
code_of terminals.MinusMinus = 80
code_of terminals.Unlisted = 81

-- all terminals in the order of their numbers
abbrev pub all_terminals : List Terminal
all_terminals =
    terminals.Name ∷ terminals.Number ∷ terminals.Void ∷ terminals.Bool ∷ terminals.Int ∷ terminals.Uint ∷ terminals.Bool2 ∷ terminals.Bool3 ∷ terminals.Bool4 ∷ terminals.Int2 ∷ terminals.Int3 ∷ terminals.Int4 ∷ terminals.Uint2 ∷ terminals.Uint3 ∷ terminals.Uint4 ∷ terminals.Struct ∷ terminals.Static ∷ terminals.Const ∷ terminals.Groupshared ∷ terminals.In ∷ terminals.Out ∷ terminals.Inout ∷ terminals.If ∷ terminals.Else ∷ terminals.For ∷ terminals.While ∷ terminals.Do ∷ terminals.Break ∷ terminals.Continue ∷ terminals.Return ∷ terminals.True ∷ terminals.False ∷ terminals.Register ∷ terminals.ByteAddressBuffer ∷ terminals.RwByteAddressBuffer ∷ terminals.StructuredBuffer ∷ terminals.RwStructuredBuffer ∷ terminals.OpenParenthesis ∷ terminals.CloseParenthesis ∷ terminals.OpenBrace ∷ terminals.CloseBrace ∷ terminals.OpenBracket ∷ terminals.CloseBracket ∷ terminals.Semicolon ∷ terminals.Comma ∷ terminals.Dot ∷ terminals.Colon ∷ terminals.Question ∷ terminals.Equals ∷ terminals.Plus ∷ terminals.Minus ∷ terminals.Star ∷ terminals.Slash ∷ terminals.Percent ∷ terminals.Less ∷ terminals.Greater ∷ terminals.Exclamation ∷ terminals.Tilde ∷ terminals.Ampersand ∷ terminals.Bar ∷ terminals.Caret ∷ terminals.AmpersandAmpersand ∷ terminals.BarBar ∷ terminals.EqualsEquals ∷ terminals.ExclamationEquals ∷ terminals.LessEquals ∷ terminals.GreaterEquals ∷ terminals.LessLess ∷ terminals.GreaterGreater ∷ terminals.PlusEquals ∷ terminals.MinusEquals ∷ terminals.StarEquals ∷ terminals.SlashEquals ∷ terminals.PercentEquals ∷ terminals.AmpersandEquals ∷ terminals.BarEquals ∷ terminals.CaretEquals ∷ terminals.LessLessEquals ∷ terminals.GreaterGreaterEquals ∷ terminals.PlusPlus ∷ terminals.MinusMinus ∷ terminals.Unlisted ∷ []

-- whether two terminals are one
abbrev pub is : Terminal → Terminal → Bool
is one other = eqb (code_of one) (code_of other)

-- The grammar, a part of that of HLSL: how tokens spell a tree, and which tokens begin a program.
--
-- A production is a step from the tokens before it to those behind it, and steps are put one behind the other as the
-- symbols of a production are. In the comments braces mean repetition, brackets an optional part, and tokens stand in
-- backquotes.
use Rattle.std.specs.Prelude.{◌≡◌, ◌≢◌, ℕ, suc, ◌<◌, ◌≤◌, Bool, true, false, IsTrue, if◌then◌else◌, nat_le, nat_lt, ◌⊎◌, List, [], ◌∷◌, ◌++◌, length, take, Option, None, Some}
use Rattle.hl_lexer.specs.declared.terminal.Terminal.{Terminal}
use Rattle.hl_lexer.specs.declared.terminal.Terminal.TheVariants as terminals
use Rattle.hl_parser.specs.Trees.{Tree, a_program, an_item, a_struct, a_member, a_type, a_basic, a_declarator, a_buffer, a_kind, a_shared, a_constant, an_init, a_function, a_result, a_param, a_direction, an_attribute, a_block, a_stmt, a_local, a_start, an_if, a_for, a_while, a_do, a_jump, an_expr, a_choice, a_binary, a_unary, a_postfix, a_primary, an_args, Trees, no_trees, more_trees, Maybe, absent, present, at_of}

-- ---- tokens

-- a token as the grammar sees it: its index, and what it is
pub data Numbered : Type 0 where
  nth : (index : ℕ) (terminal : Terminal) → Numbered

-- tokens with their indices, from an index on
abbrev pub numbered : ℕ → List Terminal → List Numbered
numbered index [] = []
numbered index (terminal ∷ more) = nth index terminal ∷ numbered (suc index) more

-- what the first token is; behind the end stands none of any text
abbrev pub peek : List Numbered → Terminal
peek [] = terminals.Unlisted
peek (nth index terminal ∷ more) = terminal

-- the words of the production `basic`
abbrev pub is_basic : Terminal → Bool
is_basic terminals.Bool = true
is_basic terminals.Int = true
is_basic terminals.Uint = true
is_basic terminals.Bool2 = true
is_basic terminals.Bool3 = true
is_basic terminals.Bool4 = true
is_basic terminals.Int2 = true
is_basic terminals.Int3 = true
is_basic terminals.Int4 = true
is_basic terminals.Uint2 = true
is_basic terminals.Uint3 = true
is_basic terminals.Uint4 = true
is_basic _ = false

-- the kinds of buffers without and with a type of their elements
abbrev pub is_raw_kind : Terminal → Bool
is_raw_kind terminals.ByteAddressBuffer = true
is_raw_kind terminals.RwByteAddressBuffer = true
is_raw_kind _ = false

abbrev pub is_element_kind : Terminal → Bool
is_element_kind terminals.StructuredBuffer = true
is_element_kind terminals.RwStructuredBuffer = true
is_element_kind _ = false

-- the words of the production `direction`
abbrev pub is_direction : Terminal → Bool
is_direction terminals.In = true
is_direction terminals.Out = true
is_direction terminals.Inout = true
is_direction _ = false

-- the words of the production `jump`
abbrev pub is_jump : Terminal → Bool
is_jump terminals.Break = true
is_jump terminals.Continue = true
is_jump terminals.Return = true
is_jump _ = false

-- the marks of the production `assign`: `=` and the ten compound marks
abbrev pub is_assign : Terminal → Bool
is_assign terminals.Equals = true
is_assign terminals.PlusEquals = true
is_assign terminals.MinusEquals = true
is_assign terminals.StarEquals = true
is_assign terminals.SlashEquals = true
is_assign terminals.PercentEquals = true
is_assign terminals.AmpersandEquals = true
is_assign terminals.BarEquals = true
is_assign terminals.CaretEquals = true
is_assign terminals.LessLessEquals = true
is_assign terminals.GreaterGreaterEquals = true
is_assign _ = false

-- the production whose operator a mark is, among those of operators that repeat
--   30. or = and { `||` and }
--   31. and = bitor { `&&` bitor }
--   32. bitor = bitxor { `|` bitxor }
--   33. bitxor = bitand { `^` bitand }
--   34. bitand = equal { `&` equal }
--   35. equal = less { (`==` | `!=`) less }
--   36. less = shift { (`<` | `>` | `<=` | `>=`) shift }
--   37. shift = sum { (`<<` | `>>`) sum }
--   38. sum = product { (`+` | `-`) product }
--   39. product = unary { (`*` | `/` | `%`) unary }
abbrev pub operator_of : Terminal → ℕ
operator_of terminals.BarBar = 30
operator_of terminals.AmpersandAmpersand = 31
operator_of terminals.Bar = 32
operator_of terminals.Caret = 33
operator_of terminals.Ampersand = 34
operator_of terminals.EqualsEquals = 35
operator_of terminals.ExclamationEquals = 35
operator_of terminals.Less = 36
operator_of terminals.Greater = 36
operator_of terminals.LessEquals = 36
operator_of terminals.GreaterEquals = 36
operator_of terminals.LessLess = 37
operator_of terminals.GreaterGreater = 37
operator_of terminals.Plus = 38
operator_of terminals.Minus = 38
operator_of terminals.Star = 39
operator_of terminals.Slash = 39
operator_of terminals.Percent = 39
operator_of _ = 0

-- the marks in front of the production `unary`
abbrev pub is_prefix : Terminal → Bool
is_prefix terminals.Plus = true
is_prefix terminals.Minus = true
is_prefix terminals.Exclamation = true
is_prefix terminals.Tilde = true
is_prefix terminals.PlusPlus = true
is_prefix terminals.MinusMinus = true
is_prefix _ = false

-- the marks behind the production `postfix` that stand alone
abbrev pub is_step : Terminal → Bool
is_step terminals.PlusPlus = true
is_step terminals.MinusMinus = true
is_step _ = false

-- the tokens that alone are a production `primary`
abbrev pub is_word : Terminal → Bool
is_word terminals.Number = true
is_word terminals.True = true
is_word terminals.False = true
is_word terminals.Name = true
is_word _ = false

-- ---- steps

-- a step from the tokens before a part to those behind it
abbrev pub Step : Type 1
Step = List Numbered → List Numbered → Type 0

-- the one, and then the other
infixr 30 ◌then◌
abbrev pub ◌then◌ : Step → Step → Step
◌then◌ one other from to = (middle : List Numbered) × one from middle × other middle to

-- the one or the other
infixr 20 ◌or◌
abbrev pub ◌or◌ : Step → Step → Step
◌or◌ one other from to = one from to ⊎ other from to

-- no token
abbrev pub Nothing : Step
Nothing from to = from ≡ to

-- no tokens at all spell this
abbrev pub Never : Step
Never from to = ⊥

-- a token that is a part of a tree
abbrev pub Token : ℕ → Terminal → Step
Token index terminal from to = from ≡ nth index terminal ∷ to

-- one of several such tokens
abbrev pub Word : ℕ → (Terminal → Bool) → Step
Word index among from to = (terminal : Terminal) × IsTrue (among terminal) × (from ≡ nth index terminal ∷ to)

-- an operator that repeats
abbrev pub Operator : ℕ → ℕ → Step
Operator index production from to = (terminal : Terminal) × (operator_of terminal ≡ production) × (from ≡ nth index terminal ∷ to)

-- a token that is no part of a tree
abbrev pub Mark : Terminal → Step
Mark terminal from to = (index : ℕ) × (from ≡ nth index terminal ∷ to)

-- a tree begins at a place that is given by its parts
abbrev pub At : ℕ → ℕ → Step → Step
At at first step from to = (at ≡ first) × step from to

-- the first place of an optional token, or of some trees, or else the other place
abbrev pub first_of : Option ℕ → ℕ → ℕ
first_of None other = other
first_of (Some index) other = index

abbrev pub first_if : Maybe → ℕ → ℕ
first_if absent other = other
first_if (present tree) other = at_of tree

abbrev pub first_among : Trees → ℕ → ℕ
first_among no_trees other = other
first_among (more_trees first rest) other = at_of first

-- no token, where no `else` follows
abbrev pub NoElse : Step
NoElse from to = (from ≡ to) × (peek from ≢ terminals.Else)

-- a token, if it is there
abbrev pub PerhapsToken : Option ℕ → Terminal → Step
PerhapsToken None terminal = Nothing
PerhapsToken (Some index) terminal = Token index terminal

-- attributes, and behind them the word of a statement: the tree begins with the first of them
abbrev pub Headed : ℕ → Trees → Step → Terminal → Step
Headed at attributes step word from to = (index : ℕ) × (at ≡ first_among attributes index) × (step then Token index word) from to

-- [ `,` Name ]
abbrev pub SpaceIs : Option ℕ → Step
SpaceIs None = Nothing
SpaceIs (Some name) = Mark terminals.Comma then Token name terminals.Name

-- [ `:` `register` `(` Name [ `,` Name ] `)` ]
abbrev pub RegisterIs : Option ℕ → Option ℕ → Step
RegisterIs None None = Nothing
RegisterIs None (Some space) = Never
RegisterIs (Some name) space =
    Mark terminals.Colon then Mark terminals.Register then Mark terminals.OpenParenthesis then Token name terminals.Name
    then SpaceIs space then Mark terminals.CloseParenthesis

-- [ `:` Name ]
abbrev pub SemanticIs : Option ℕ → Step
SemanticIs None = Nothing
SemanticIs (Some name) = Mark terminals.Colon then Token name terminals.Name

-- ---- the productions by their numbers

abbrev pub n_program : ℕ
n_program = 1

abbrev pub n_item : ℕ
n_item = 2

abbrev pub n_struct : ℕ
n_struct = 3

abbrev pub n_member : ℕ
n_member = 4

abbrev pub n_type : ℕ
n_type = 5

abbrev pub n_basic : ℕ
n_basic = 6

abbrev pub n_declarator : ℕ
n_declarator = 7

abbrev pub n_buffer : ℕ
n_buffer = 8

abbrev pub n_kind : ℕ
n_kind = 9

abbrev pub n_shared : ℕ
n_shared = 10

abbrev pub n_constant : ℕ
n_constant = 11

abbrev pub n_init : ℕ
n_init = 12

abbrev pub n_function : ℕ
n_function = 13

abbrev pub n_result : ℕ
n_result = 14

abbrev pub n_param : ℕ
n_param = 15

abbrev pub n_direction : ℕ
n_direction = 16

abbrev pub n_attribute : ℕ
n_attribute = 17

abbrev pub n_block : ℕ
n_block = 18

abbrev pub n_stmt : ℕ
n_stmt = 19

abbrev pub n_local : ℕ
n_local = 20

abbrev pub n_start : ℕ
n_start = 21

abbrev pub n_if : ℕ
n_if = 22

abbrev pub n_for : ℕ
n_for = 23

abbrev pub n_while : ℕ
n_while = 24

abbrev pub n_do : ℕ
n_do = 25

abbrev pub n_jump : ℕ
n_jump = 26

abbrev pub n_expr : ℕ
n_expr = 27

abbrev pub n_choice : ℕ
n_choice = 29

abbrev pub n_or : ℕ
n_or = 30

abbrev pub n_product : ℕ
n_product = 39

abbrev pub n_unary : ℕ
n_unary = 40

abbrev pub n_postfix : ℕ
n_postfix = 41

abbrev pub n_primary : ℕ
n_primary = 42

abbrev pub n_args : ℕ
n_args = 43

-- the last production that may stand for a production. From 27 to 41 a production with one part alone makes no node,
-- so a node of a later one stands there too
abbrev pub last_for : ℕ → ℕ
last_for production = if nat_lt production n_expr then production else (if nat_le production n_primary then n_primary else production)

-- where a production is asked for, this step of a production that may stand there
abbrev pub As : ℕ → ℕ → Step → Step
As asked production step from to = (asked ≤ production) × (production ≤ last_for asked) × step from to

-- a step of one of the productions of operators that repeat
abbrev pub Repeats : ℕ → Step → Step
Repeats production step from to = (n_or ≤ production) × (production ≤ n_product) × step from to

-- ---- the grammar

abbrev mutual
  -- as a production, the tree is spelled by the tokens from one place to another
  pub Spells : ℕ → Tree → Step
  -- 1. program = item { item }
  Spells asked (a_program at no_trees) = Never
  Spells asked (a_program at (more_trees item items)) =
      As asked n_program (At at (at_of item) (Spells n_item item then Each n_item items))
  -- 2. item = struct | buffer | shared | constant | function
  Spells asked (an_item at item) =
      As asked n_item (At at (at_of item)
      (Spells n_struct item or Spells n_buffer item or Spells n_shared item or Spells n_constant item or Spells n_function item))
  -- 3. struct = `struct` Name `{` member { member } `}` `;`
  Spells asked (a_struct at name members) =
      As asked n_struct
      (Token at terminals.Struct then Token name terminals.Name then Mark terminals.OpenBrace then Several n_member members
      then Mark terminals.CloseBrace then Mark terminals.Semicolon)
  -- 4. member = type declarator { `,` declarator } `;`
  Spells asked (a_member at type declarators) =
      As asked n_member (At at (at_of type)
      (Spells n_type type then Listed n_declarator declarators then Mark terminals.Semicolon))
  -- 5. type = basic | Name
  Spells asked (a_type at (present basic)) = As asked n_type (At at (at_of basic) (Spells n_basic basic))
  Spells asked (a_type at absent) = As asked n_type (Token at terminals.Name)
  -- 6. basic = one of the words `bool` to `uint4`
  Spells asked (a_basic at) = As asked n_basic (Word at is_basic)
  -- 7. declarator = Name { `[` expr `]` }
  Spells asked (a_declarator at lengths) = As asked n_declarator (Token at terminals.Name then Lengths lengths)
  -- 8. buffer = kind Name [ `:` `register` `(` Name [ `,` Name ] `)` ] `;`
  Spells asked (a_buffer at kind name register space) =
      As asked n_buffer (At at (at_of kind)
      (Spells n_kind kind then Token name terminals.Name then RegisterIs register space then Mark terminals.Semicolon))
  -- 9. kind = `ByteAddressBuffer` | `RWByteAddressBuffer` | `StructuredBuffer` `<` type `>` | `RWStructuredBuffer` `<` type `>`
  Spells asked (a_kind at absent) = As asked n_kind (Word at is_raw_kind)
  Spells asked (a_kind at (present element)) =
      As asked n_kind
      (Word at is_element_kind then Mark terminals.Less then Spells n_type element then Mark terminals.Greater)
  -- 10. shared = `groupshared` type declarator { `,` declarator } `;`
  Spells asked (a_shared at type declarators) =
      As asked n_shared
      (Token at terminals.Groupshared then Spells n_type type then Listed n_declarator declarators then Mark terminals.Semicolon)
  -- 11. constant = `static` `const` type declarator `=` init `;`
  Spells asked (a_constant at type declarator init) =
      As asked n_constant
      (Token at terminals.Static then Mark terminals.Const then Spells n_type type then Spells n_declarator declarator
      then Mark terminals.Equals then Spells n_init init then Mark terminals.Semicolon)
  -- 12. init = expr | `{` init { `,` init } [ `,` ] `}`
  Spells asked (an_init at (present value) no_trees) = As asked n_init (At at (at_of value) (Spells n_expr value))
  Spells asked (an_init at (present value) (more_trees part parts)) = Never
  Spells asked (an_init at absent parts) =
      As asked n_init
      (Token at terminals.OpenBrace then Listed n_init parts
      then (Mark terminals.CloseBrace or (Mark terminals.Comma then Mark terminals.CloseBrace)))
  -- 13. function = { attribute } result Name `(` [ param { `,` param } ] `)` block
  Spells asked (a_function at attributes result name params block) =
      As asked n_function (At at (first_among attributes (at_of result))
      (Each n_attribute attributes then Spells n_result result then Token name terminals.Name
      then Mark terminals.OpenParenthesis then PerhapsListed n_param params then Mark terminals.CloseParenthesis
      then Spells n_block block))
  -- 14. result = `void` | type
  Spells asked (a_result at absent) = As asked n_result (Token at terminals.Void)
  Spells asked (a_result at (present type)) = As asked n_result (At at (at_of type) (Spells n_type type))
  -- 15. param = [ `const` ] [ direction ] type declarator [ `:` Name ]
  Spells asked (a_param at constant direction type declarator semantic) =
      As asked n_param (At at (first_of constant (first_if direction (at_of type)))
      (PerhapsToken constant terminals.Const then Perhaps n_direction direction then Spells n_type type
      then Spells n_declarator declarator then SemanticIs semantic))
  -- 16. direction = `in` | `out` | `inout`
  Spells asked (a_direction at) = As asked n_direction (Word at is_direction)
  -- 17. attribute = `[` Name [ `(` expr { `,` expr } `)` ] `]`
  Spells asked (an_attribute at name arguments) =
      As asked n_attribute
      (Token at terminals.OpenBracket then Token name terminals.Name then AttributeArguments arguments
      then Mark terminals.CloseBracket)
  -- 18. block = `{` { stmt } `}`
  Spells asked (a_block at statements) =
      As asked n_block (Token at terminals.OpenBrace then Each n_stmt statements then Mark terminals.CloseBrace)
  -- 19. stmt = block | local `;` | expr `;` | `;` | if | for | while | do | jump `;`
  Spells asked (a_stmt at (present part)) =
      As asked n_stmt (At at (at_of part)
      (Spells n_block part or (Spells n_local part then Mark terminals.Semicolon)
      or (Spells n_expr part then Mark terminals.Semicolon) or Spells n_if part or Spells n_for part
      or Spells n_while part or Spells n_do part or (Spells n_jump part then Mark terminals.Semicolon)))
  Spells asked (a_stmt at absent) = As asked n_stmt (Token at terminals.Semicolon)
  -- 20. local = [ `const` ] type start { `,` start }
  Spells asked (a_local at constant type starts) =
      As asked n_local (At at (first_of constant (at_of type))
      (PerhapsToken constant terminals.Const then Spells n_type type then Listed n_start starts))
  -- 21. start = declarator [ `=` init ]
  Spells asked (a_start at declarator init) =
      As asked n_start (At at (at_of declarator) (Spells n_declarator declarator then InitIs init))
  -- 22. if = { attribute } `if` `(` expr `)` stmt [ `else` stmt ]
  Spells asked (an_if at attributes condition consequent alternative) =
      As asked n_if
      (Headed at attributes (Each n_attribute attributes) terminals.If then Mark terminals.OpenParenthesis
      then Spells n_expr condition then Mark terminals.CloseParenthesis then Spells n_stmt consequent then ElseIs alternative)
  -- 23. for = { attribute } `for` `(` [ local | expr ] `;` [ expr ] `;` [ expr ] `)` stmt
  Spells asked (a_for at attributes first condition step body) =
      As asked n_for
      (Headed at attributes (Each n_attribute attributes) terminals.For then Mark terminals.OpenParenthesis
      then FirstIs first then Mark terminals.Semicolon then Perhaps n_expr condition then Mark terminals.Semicolon
      then Perhaps n_expr step then Mark terminals.CloseParenthesis then Spells n_stmt body)
  -- 24. while = { attribute } `while` `(` expr `)` stmt
  Spells asked (a_while at attributes condition body) =
      As asked n_while
      (Headed at attributes (Each n_attribute attributes) terminals.While then Mark terminals.OpenParenthesis
      then Spells n_expr condition then Mark terminals.CloseParenthesis then Spells n_stmt body)
  -- 25. do = { attribute } `do` stmt `while` `(` expr `)` `;`
  Spells asked (a_do at attributes body condition) =
      As asked n_do
      (Headed at attributes (Each n_attribute attributes) terminals.Do then Spells n_stmt body then Mark terminals.While
      then Mark terminals.OpenParenthesis then Spells n_expr condition then Mark terminals.CloseParenthesis
      then Mark terminals.Semicolon)
  -- 26. jump = `break` | `continue` | `return` [ expr ]
  Spells asked (a_jump at absent) = As asked n_jump (Word at is_jump)
  Spells asked (a_jump at (present value)) = As asked n_jump (Token at terminals.Return then Spells n_expr value)
  -- 27. expr = choice [ assign expr ]
  -- 28. assign = `=` or one of the ten compound marks
  Spells asked (an_expr at left mark right) =
      As asked n_expr (At at (at_of left) (Spells n_choice left then Word mark is_assign then Spells n_expr right))
  -- 29. choice = or [ `?` expr `:` choice ]
  Spells asked (a_choice at condition consequent alternative) =
      As asked n_choice (At at (at_of condition)
      (Spells n_or condition then Mark terminals.Question then Spells n_expr consequent then Mark terminals.Colon
      then Spells n_choice alternative))
  -- 30. to 39. of `operator_of`: the production of the number, associated to the left, so that what stands to the left
  -- of its last operator is the production itself, and to the right the next production
  Spells asked (a_binary production at left mark right) =
      Repeats production (As asked production (At at (at_of left)
      (Spells production left then Operator mark production then Spells (suc production) right)))
  -- 40. unary = (`+` | `-` | `!` | `~` | `++` | `--`) unary | `(` basic `)` unary | postfix
  Spells asked (a_unary at absent operand) = As asked n_unary (Word at is_prefix then Spells n_unary operand)
  Spells asked (a_unary at (present basic) operand) =
      As asked n_unary
      (Token at terminals.OpenParenthesis then Spells n_basic basic then Mark terminals.CloseParenthesis
      then Spells n_unary operand)
  -- 41. postfix = primary { `.` Name [ args ] | `[` expr `]` | `++` | `--` }
  Spells asked (a_postfix at operand mark (Some name) absent) =
      As asked n_postfix (At at (at_of operand)
      (Spells n_postfix operand then Token mark terminals.Dot then Token name terminals.Name))
  Spells asked (a_postfix at operand mark (Some name) (present arguments)) =
      As asked n_postfix (At at (at_of operand)
      (Spells n_postfix operand then Token mark terminals.Dot then Token name terminals.Name then Spells n_args arguments))
  Spells asked (a_postfix at operand mark None (present index)) =
      As asked n_postfix (At at (at_of operand)
      (Spells n_postfix operand then Token mark terminals.OpenBracket then Spells n_expr index then Mark terminals.CloseBracket))
  Spells asked (a_postfix at operand mark None absent) =
      As asked n_postfix (At at (at_of operand) (Spells n_postfix operand then Word mark is_step))
  -- 42. primary = Number | `true` | `false` | Name [ args ] | basic args | `(` expr `)`
  Spells asked (a_primary at absent absent) = As asked n_primary (Word at is_word)
  Spells asked (a_primary at absent (present arguments)) =
      As asked n_primary (Token at terminals.Name then Spells n_args arguments)
  Spells asked (a_primary at (present basic) (present arguments)) =
      As asked n_primary (At at (at_of basic) (Spells n_basic basic then Spells n_args arguments))
  Spells asked (a_primary at (present inner) absent) =
      As asked n_primary
      (Token at terminals.OpenParenthesis then Spells n_expr inner then Mark terminals.CloseParenthesis)
  -- 43. args = `(` [ expr { `,` expr } ] `)`
  Spells asked (an_args at arguments) =
      As asked n_args
      (Token at terminals.OpenParenthesis then PerhapsListed n_expr arguments then Mark terminals.CloseParenthesis)

  -- any number of trees of a production
  pub Each : ℕ → Trees → Step
  Each production no_trees = Nothing
  Each production (more_trees first rest) = Spells production first then Each production rest

  -- at least one
  pub Several : ℕ → Trees → Step
  Several production no_trees = Never
  Several production (more_trees first rest) = Spells production first then Each production rest

  -- any number, each behind a comma
  pub Commas : ℕ → Trees → Step
  Commas production no_trees = Nothing
  Commas production (more_trees first rest) =
      Mark terminals.Comma then Spells production first then Commas production rest

  -- at least one, with a comma between two
  pub Listed : ℕ → Trees → Step
  Listed production no_trees = Never
  Listed production (more_trees first rest) = Spells production first then Commas production rest

  -- any number, with a comma between two
  pub PerhapsListed : ℕ → Trees → Step
  PerhapsListed production no_trees = Nothing
  PerhapsListed production (more_trees first rest) = Spells production first then Commas production rest

  -- { `[` expr `]` }
  pub Lengths : Trees → Step
  Lengths no_trees = Nothing
  Lengths (more_trees first rest) =
      Mark terminals.OpenBracket then Spells n_expr first then Mark terminals.CloseBracket then Lengths rest

  -- [ `(` expr { `,` expr } `)` ]
  pub AttributeArguments : Trees → Step
  AttributeArguments no_trees = Nothing
  AttributeArguments (more_trees first rest) =
      Mark terminals.OpenParenthesis then Spells n_expr first then Commas n_expr rest then Mark terminals.CloseParenthesis

  -- a tree of a production, or none
  pub Perhaps : ℕ → Maybe → Step
  Perhaps production absent = Nothing
  Perhaps production (present tree) = Spells production tree

  -- [ `=` init ]
  pub InitIs : Maybe → Step
  InitIs absent = Nothing
  InitIs (present init) = Mark terminals.Equals then Spells n_init init

  -- [ local | expr ]
  pub FirstIs : Maybe → Step
  FirstIs absent = Nothing
  FirstIs (present first) = Spells n_local first or Spells n_expr first

  -- [ `else` stmt ]. An `if` without `else` isn't followed by `else`
  pub ElseIs : Maybe → Step
  ElseIs absent = NoElse
  ElseIs (present alternative) = Mark terminals.Else then Spells n_stmt alternative

-- ---- programs

-- the tokens spell the tree of a program
abbrev pub SpellsProgram : List Terminal → Tree → Type 0
SpellsProgram tokens tree = Spells n_program tree (numbered 0 tokens) []

-- some tokens after these complete a program
abbrev pub BeginsProgram : List Terminal → Type 0
BeginsProgram tokens = (more : List Terminal) × (tree : Tree) × SpellsProgram (tokens ++ more) tree

-- the tokens spell no program, and this is the least index such that the tokens through it begin none, or the number
-- of tokens where all of them begin one
pub record IsSyntaxFault (tokens : List Terminal) (at : ℕ) : Type 0 where
  pub no_program : (tree : Tree) → ¬ SpellsProgram tokens tree
  pub within : at ≤ length tokens
  pub begins_before : BeginsProgram (take at tokens)
  pub begins_not : at < length tokens → ¬ BeginsProgram (take (suc at) tokens)

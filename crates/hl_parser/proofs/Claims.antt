-- What it means that the machine reads the tokens of a tree.
use Rattle.std.proofs.Common.{◌≡◌, ℕ, suc, ◌<◌, ◌≤◌, Bool, true, false, if◌then◌else◌, nat_le, nat_lt, not, ◌||◌, Option, List, [], ◌∷◌, ◌++◌}
use Rattle.hl_lexer.specs.declared.terminal.Terminal.{Terminal}
use Rattle.hl_lexer.specs.declared.terminal.Terminal.TheVariants as terminals
use Rattle.hl_parser.specs.declared.act.Act.TheVariants as acts
use Rattle.hl_parser.specs.declared.symbol.Symbol.{Symbol}
use Rattle.hl_parser.specs.declared.symbol.Symbol.TheVariants as symbols
use Rattle.hl_parser.specs.Codes.{is}
use Rattle.hl_parser.specs.Grammar.{Mark, NoElse, Nothing, Numbered, Spells, Step, nth, n_expr, n_stmt, n_local, n_init, peek, ◌or◌, ◌then◌}
use Rattle.hl_parser.specs.Machine.{Kept, Value, append_tree, begins_item, behind_kind, kept, level_of, rest_of_attribute, start, token_value, tree_value, trees_value, yields}
use Rattle.hl_parser.specs.Trees.{Tree, a_program, an_item, a_struct, a_member, a_type, a_declarator, a_buffer, a_kind, a_shared, a_constant, an_init, a_function, a_result, a_param, an_attribute, a_block, a_stmt, a_local, a_start, an_if, a_for, a_while, a_do, a_jump, an_expr, a_choice, a_binary, a_unary, a_postfix, a_primary, an_args, Trees, no_trees, more_trees, Maybe, absent, present}
use Rattle.hl_parser.proofs.Runs.{Runs, move_at}
use Rattle.hl_parser.proofs.Shapes.{number_of}

-- the tokens that may stand behind an expression as a whole
abbrev pub closes : Terminal → Bool
closes terminals.Semicolon = true
closes terminals.CloseParenthesis = true
closes terminals.CloseBracket = true
closes terminals.Comma = true
closes terminals.Colon = true
closes terminals.CloseBrace = true
closes _ = false

-- behind a tree of a production stands no operator that its last part takes
abbrev pub edge_of : ℕ → ℕ
edge_of production = if nat_lt production 30 then production else (if nat_lt production 40 then suc production else (if nat_le production 40 then 41 else 43))

pub record Quiet (level : ℕ) (to : List Numbered) : Type 0 where
  pub below : level_of (peek to) < level
  pub no_call : is (peek to) terminals.OpenParenthesis ≡ false

-- a symbol reads the tree
abbrev pub Takes : Symbol → Tree → Step
Takes s tree from to =
    (K : List Symbol) (vs : List Value) (w : Option Kept) → Runs K (kept (tree_value tree ∷ vs)) to w → Runs (s ∷ K) (kept vs) from w

-- a symbol reads the tree where the token behind it passes a test, and other symbols stand behind it
abbrev pub TakesBefore : (Terminal → Bool) → Symbol → List Symbol → Tree → Step
TakesBefore test s more tree from to =
    (K : List Symbol) (vs : List Value) (w : Option Kept) → test (peek to) ≡ true
    → Runs (more ++ K) (kept (tree_value tree ∷ vs)) to w → Runs (s ∷ K) (kept vs) from w

abbrev pub TakesExpression : Tree → Step
TakesExpression tree from to =
    (k : ℕ) (K : List Symbol) (vs : List Value) (w : Option Kept) → k ≤ number_of tree → Quiet (edge_of (number_of tree)) to
    → Runs (symbols.Tail (number_of tree) k ∷ K) (kept (tree_value tree ∷ vs)) to w → Runs (symbols.Operand k ∷ K) (kept vs) from w

-- the tokens behind a declarator, a start and a parameter
abbrev pub ends_declarator : Terminal → Bool
ends_declarator t = not (is t terminals.OpenBracket)

abbrev pub ends_start : Terminal → Bool
ends_start t = is t terminals.Comma || is t terminals.Semicolon

abbrev pub ends_param : Terminal → Bool
ends_param t = is t terminals.Comma || is t terminals.CloseParenthesis

abbrev pub ends_local : Terminal → Bool
ends_local t = is t terminals.Semicolon

abbrev pub always : Terminal → Bool
always t = true

-- an attribute behind its bracket is read as one more of a list
pub record TakesAttribute (at : ℕ) (tree : Tree) (from to : List Numbered) : Type 0 where
  pub middle : List Numbered
  pub bracket : from ≡ nth at terminals.OpenBracket ∷ middle
  pub reads : (K : List Symbol) (vs : List Value) (done : Trees) (w : Option Kept)
      → Runs (symbols.Attributes ∷ K) (kept (trees_value (append_tree done tree) ∷ vs)) to w
      → Runs (rest_of_attribute ++ K) (kept (token_value at ∷ trees_value done ∷ vs)) middle w

-- the machine reads a program from its start on
abbrev pub TakesProgram : Tree → Step
TakesProgram tree from to =
    (w : Option Kept) → begins_item (peek to) ≡ false → Runs [] (kept (tree_value tree ∷ [])) to w → Runs start (kept []) from w

abbrev pub Trivial : Step
Trivial from to = Unit {0}

-- what the machine does with the tokens of a tree
abbrev pub Claim : Tree → Step
Claim (a_program at items) = TakesProgram (a_program at items)
Claim (an_item at item) = Takes symbols.Item (an_item at item)
Claim (a_struct at name members) = TakesBefore always symbols.Item (symbols.Make acts.Item ∷ []) (a_struct at name members)
Claim (a_member at type declarators) = Takes symbols.Member (a_member at type declarators)
Claim (a_type at basic) = Takes symbols.Type (a_type at basic)
Claim (a_declarator at lengths) = TakesBefore ends_declarator symbols.Declarator [] (a_declarator at lengths)
Claim (a_buffer at kind name register space) = TakesBefore always symbols.Item (symbols.Make acts.Item ∷ []) (a_buffer at kind name register space)
Claim (a_kind at element) = TakesBefore always symbols.Item behind_kind (a_kind at element)
Claim (a_shared at type declarators) = TakesBefore always symbols.Item (symbols.Make acts.Item ∷ []) (a_shared at type declarators)
Claim (a_constant at type declarator init) = TakesBefore always symbols.Item (symbols.Make acts.Item ∷ []) (a_constant at type declarator init)
Claim (an_init at value parts) = TakesBefore closes symbols.Init [] (an_init at value parts)
Claim (a_function at attributes result name params block) =
    TakesBefore always symbols.Item (symbols.Make acts.Item ∷ []) (a_function at attributes result name params block)
Claim (a_result at type) = Takes symbols.Result (a_result at type)
Claim (a_param at constant direction type declarator semantic) =
    TakesBefore ends_param symbols.Param [] (a_param at constant direction type declarator semantic)
Claim (an_attribute at name arguments) = TakesAttribute at (an_attribute at name arguments)
Claim (a_block at statements) = Takes symbols.Block (a_block at statements)
Claim (a_stmt at part) = Takes symbols.Statement (a_stmt at part)
Claim (a_local at constant type starts) = TakesBefore ends_local symbols.Local [] (a_local at constant type starts)
Claim (a_start at declarator init) = TakesBefore ends_start symbols.Start [] (a_start at declarator init)
Claim (an_if at attributes condition consequent alternative) =
    TakesBefore always symbols.Statement (symbols.Make acts.Part ∷ []) (an_if at attributes condition consequent alternative)
Claim (a_for at attributes first condition step body) =
    TakesBefore always symbols.Statement (symbols.Make acts.Part ∷ []) (a_for at attributes first condition step body)
Claim (a_while at attributes condition body) =
    TakesBefore always symbols.Statement (symbols.Make acts.Part ∷ []) (a_while at attributes condition body)
Claim (a_do at attributes body condition) =
    TakesBefore always symbols.Statement (symbols.Make acts.Part ∷ []) (a_do at attributes body condition)
Claim (a_jump at value) =
    TakesBefore ends_local symbols.Statement (symbols.Skip terminals.Semicolon ∷ symbols.Make acts.Part ∷ []) (a_jump at value)
Claim (an_expr at left mark right) = TakesExpression (an_expr at left mark right)
Claim (a_choice at condition consequent alternative) = TakesExpression (a_choice at condition consequent alternative)
Claim (a_binary production at left mark right) = TakesExpression (a_binary production at left mark right)
Claim (a_unary at cast operand) = TakesExpression (a_unary at cast operand)
Claim (a_postfix at operand mark name part) = TakesExpression (a_postfix at operand mark name part)
Claim (a_primary at part arguments) = TakesExpression (a_primary at part arguments)
Claim (an_args at arguments) = Takes symbols.Args (an_args at arguments)
Claim tree = Trivial

-- the same of each tree of a list

pub record Claimed (asked : ℕ) (tree : Tree) (from to : List Numbered) : Type 0 where
  pub spelled : Spells asked tree from to
  pub claim : Claim tree from to

abbrev pub EachClaimed : ℕ → Trees → Step
EachClaimed asked no_trees = Nothing
EachClaimed asked (more_trees first rest) = Claimed asked first then EachClaimed asked rest

abbrev pub CommasClaimed : ℕ → Trees → Step
CommasClaimed asked no_trees = Nothing
CommasClaimed asked (more_trees first rest) = Mark terminals.Comma then Claimed asked first then CommasClaimed asked rest

abbrev pub LengthsClaimed : Trees → Step
LengthsClaimed no_trees = Nothing
LengthsClaimed (more_trees first rest) =
    Mark terminals.OpenBracket then Claimed n_expr first then Mark terminals.CloseBracket then LengthsClaimed rest

-- the trees behind others
abbrev pub append_trees : Trees → Trees → Trees
append_trees done no_trees = done
append_trees done (more_trees first rest) = append_trees (append_tree done first) rest

-- a symbol reads trees as more of a list, up to where it yields
abbrev pub Loops : Symbol → Trees → Step
Loops s trees from to =
    (K : List Symbol) (vs : List Value) (done : Trees) (w : Option Kept) → move_at s to ≡ yields []
    → Runs K (kept (trees_value (append_trees done trees) ∷ vs)) to w → Runs (s ∷ K) (kept (trees_value done ∷ vs)) from w

abbrev pub PerhapsListedClaimed : ℕ → Trees → Step
PerhapsListedClaimed asked no_trees = Nothing
PerhapsListedClaimed asked (more_trees first rest) = Claimed asked first then CommasClaimed asked rest

abbrev pub PerhapsClaimed : ℕ → Maybe → Step
PerhapsClaimed asked absent = Nothing
PerhapsClaimed asked (present tree) = Claimed asked tree

abbrev pub InitClaimed : Maybe → Step
InitClaimed absent = Nothing
InitClaimed (present init) = Mark terminals.Equals then Claimed n_init init

abbrev pub FirstClaimed : Maybe → Step
FirstClaimed absent = Nothing
FirstClaimed (present first) = Claimed n_local first or Claimed n_expr first

abbrev pub ElseClaimed : Maybe → Step
ElseClaimed absent = NoElse
ElseClaimed (present alternative) = Mark terminals.Else then Claimed n_stmt alternative

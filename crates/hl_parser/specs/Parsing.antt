-- What `parse` answers.
use Rattle.std.specs.Prelude.{◌≡◌, ℕ, ◌<◌, ◌≤◌, List, [], ◌∷◌, map}
use Rattle.std.specs.declared.result.Result.{Result}
use Rattle.std.specs.declared.result.Result.TheVariants.{Ok, Err}
use Rattle.hl_lexer.specs.declared.terminal.Terminal.{Terminal}
use Rattle.hl_lexer.specs.declared.terminal.Terminal.TheVariants.{Unlisted}
use Rattle.hl_lexer.specs.declared.token.Token.{Token}
use Rattle.hl_lexer.specs.Terminals.{terminal_of}
use Rattle.hl_parser.specs.declared.fault.ParseFault.{ParseFault}
use Rattle.hl_parser.specs.declared.fault.ParseFault.TheVariants.{Syntax, TooDeep, Memory}
use Rattle.hl_parser.specs.declared.tree.Tree.{Tree}
use Rattle.hl_parser.specs.Grammar.{IsSyntaxFault, SpellsProgram}
use Rattle.hl_parser.specs.Trees.{depth}
use Rattle.hl_parser.specs.Trees as plain
use Rattle.hl_parser.specs.Views.{plain_of}

-- the greatest depth of a tree that is answered
abbrev pub most_depth : ℕ
most_depth = 64

-- what tokens are for the grammar
abbrev pub terminals_of : List Token → List Terminal
terminals_of tokens = map (λ token. terminal_of token.kind) tokens

-- the first one, or what stands behind the end
abbrev pub first_terminal : List Terminal → Terminal
first_terminal [] = Unlisted
first_terminal (terminal ∷ more) = terminal

-- the tokens spell a tree that is too deep
abbrev pub SpellsTooDeep : List Terminal → Type 0
SpellsTooDeep tokens = (tree : plain.Tree) × SpellsProgram tokens tree × (most_depth < depth tree)

-- the tokens have this fault, or memory ran out
abbrev pub IsFault : List Terminal → ParseFault → Type 0
IsFault tokens (Syntax at) = IsSyntaxFault tokens at
IsFault tokens TooDeep = SpellsTooDeep tokens
IsFault tokens Memory = Unit {0}

-- the answer is this tree, or memory ran out
abbrev pub GivesTree : Result Tree ParseFault → plain.Tree → Type 0
GivesTree (Ok found) tree = plain_of found ≡ tree
GivesTree (Err Memory) tree = Unit {0}
GivesTree (Err (Syntax at)) tree = ⊥
GivesTree (Err TooDeep) tree = ⊥

-- the answer is this fault, or memory ran out
abbrev pub GivesFault : Result Tree ParseFault → ParseFault → Type 0
GivesFault (Ok found) fault = ⊥
GivesFault (Err Memory) fault = Unit {0}
GivesFault (Err (Syntax at)) fault = Syntax at ≡ fault
GivesFault (Err TooDeep) fault = TooDeep ≡ fault

-- a tree is spelled and isn't too deep
pub record IsAnswer (tokens : List Terminal) (tree : plain.Tree) : Type 0 where
  pub spelled : SpellsProgram tokens tree
  pub shallow : depth tree ≤ most_depth

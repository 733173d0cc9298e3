-- What `elaborate` answers.
use Rattle.std.specs.Prelude.{◌≡◌, ℕ, ◌≤◌, List}
use Rattle.std.specs.declared.result.Result.{Result}
use Rattle.std.specs.declared.result.Result.TheVariants.{Ok, Err}
use Rattle.base_core.specs.declared.place.Place.{Place}
use Rattle.hl_lexer.specs.Tokens.{IsTokenList, Lexeme}
use Rattle.hl_parser.specs.Grammar.{SpellsProgram}
use Rattle.hl_parser.specs.Parsing.{most_depth}
use Rattle.hl_parser.specs.Trees.{Tree, depth}
use Rattle.hl_meaning.specs.declared.program.Program.{Program}
use Rattle.hl_meaning.specs.Held.{plain_program}
use Rattle.hl_meaning.specs.Programs as plain
use Rattle.hl_rules.specs.Rules.{BreaksFirst}
use Rattle.hl_rules.specs.Source.{terminals_of}
use Rattle.hl_types.specs.declared.fault.RuleFault.{RuleFault}
use Rattle.hl_types.specs.declared.fault.RuleFault.TheVariants.{Broken, Memory}

-- the tokens of a text spell this tree, and it isn't too deep
pub record AreSpelling (tokens : List Lexeme) (end : Place) (tree : Tree) : Type 0 where
  pub text : List ℕ
  pub list : IsTokenList text tokens end
  pub spelled : SpellsProgram (terminals_of tokens) tree
  pub shallow : depth tree ≤ most_depth

-- the tree has this fault, or memory ran out
abbrev pub IsFault : Tree → List Lexeme → (entry : List ℕ) → RuleFault → Type 0
IsFault tree tokens entry (Broken rule at) = BreaksFirst tree tokens entry at rule
IsFault tree tokens entry Memory = Unit {0}

-- the answer is this program, or memory ran out
abbrev pub GivesProgram : Result Program RuleFault → plain.Program → Type 0
GivesProgram (Ok found) program = plain_program found ≡ program
GivesProgram (Err Memory) program = Unit {0}
GivesProgram (Err (Broken rule at)) program = ⊥

-- the answer is this fault, or memory ran out
abbrev pub GivesFault : Result Program RuleFault → RuleFault → Type 0
GivesFault (Ok found) fault = ⊥
GivesFault (Err Memory) fault = Unit {0}
GivesFault (Err (Broken rule at)) fault = Broken rule at ≡ fault

-- What holds of the trees of every list of tokens.
use Rattle.std.specs.Prelude.{◌≡◌, List}
use Rattle.hl_lexer.specs.declared.terminal.Terminal.{Terminal}
use Rattle.hl_parser.specs.Grammar.{SpellsProgram}
use Rattle.hl_parser.specs.Trees.{Tree}

-- tokens spell at most one tree
abbrev pub AtMostOneTree : Type 0
AtMostOneTree = (tokens : List Terminal) (tree other : Tree) → SpellsProgram tokens tree → SpellsProgram tokens other → tree ≡ other

-- What holds of the rules and of elaboration for every tree.
use Rattle.std.specs.Prelude.{◌≡◌, ℕ, List, Some}
use Rattle.base_core.specs.declared.place.Place.{Place}
use Rattle.hl_lexer.specs.Tokens.{IsTokenList, Lexeme}
use Rattle.hl_parser.specs.Grammar.{SpellsProgram}
use Rattle.hl_parser.specs.Trees.{Tree}
use Rattle.hl_meaning.specs.Programs.{Program}
use Rattle.hl_meaning.specs.WellFormed.{IsWellFormed}
use Rattle.hl_rules.specs.Elaboration.{Elaborates, program_of}
use Rattle.hl_rules.specs.Rules.{Breaks, BreaksFirst, BreaksNothing, IsFirstBroken, first_broken}
use Rattle.hl_rules.specs.Source.{terminals_of}

-- a tree is elaborated to at most one program
abbrev pub AtMostOneProgram : Type 0
AtMostOneProgram = (tree : Tree) (tokens : List Lexeme) (entry : List ℕ) (program other : Program) → Elaborates tree tokens entry program → Elaborates tree tokens entry other → program ≡ other

-- a tree has at most one first broken rule
abbrev pub AtMostOneFirst : Type 0
AtMostOneFirst = (tree : Tree) (tokens : List Lexeme) (entry : List ℕ) (at rule other_at other : ℕ) → BreaksFirst tree tokens entry at rule → BreaksFirst tree tokens entry other_at other → (at ≡ other_at) × (rule ≡ other)

-- a tree that breaks a rule is elaborated to no program
abbrev pub NoProgram : Type 0
NoProgram = (tree : Tree) (tokens : List Lexeme) (entry : List ℕ) (at rule : ℕ) (program : Program) → Breaks tree tokens entry at rule → ¬ Elaborates tree tokens entry program

-- every tree breaks no rule, or has a first broken rule: what gathering over its sites finds
abbrev pub OneFirst : Type 0
OneFirst = (tree : Tree) (tokens : List Lexeme) (entry : List ℕ) → IsFirstBroken tree tokens entry (first_broken tree tokens entry)

-- a tree that the tokens of a text spell, and that breaks no rule, becomes a program, and it is well formed
abbrev pub FreeIsWellFormed : Type 0
FreeIsWellFormed = (text entry : List ℕ) (tokens : List Lexeme) (end : Place) (tree : Tree) → IsTokenList text tokens end → SpellsProgram (terminals_of tokens) tree → BreaksNothing tree tokens entry → (program : Program) × (program_of tokens entry tree ≡ Some program) × IsWellFormed program

-- Why a text isn't compiled.
--
-- A text is looked at in this order: its length, its tokens, their syntax, the depth of their tree, the typing rules, and
-- the form of its program. So it has at most one of these faults, and none where it is compiled.
use Rattle.std.specs.Prelude.{◌≡◌, ℕ, ◌<◌, ◌≤◌, List, length, None, Some}
use Rattle.std.specs.declared.result.Result.{Result}
use Rattle.std.specs.declared.result.Result.TheVariants.{Ok, Err}
use Rattle.base_core.specs.declared.place.Place.{Place}
use Rattle.hl_lexer.specs.Tokens.{IsFirstFault, IsTokenList, Lexeme}
use Rattle.hl_lexer.specs.declared.fault.LexFault.{LexFault}
use Rattle.hl_lexer.specs.declared.fault.LexFault.TheVariants.{Memory as NoRoomForTokens}
use Rattle.hl_parser.specs.Trees as plain
use Rattle.hl_parser.specs.Views.{plain_of}
use Rattle.hl_parser.specs.declared.tree.Tree.{Tree}
use Rattle.hl_parser.specs.declared.fault.ParseFault.{ParseFault}
use Rattle.hl_parser.specs.declared.fault.ParseFault.TheVariants.{Syntax, TooDeep, Memory as NoRoomForTree}
use Rattle.hl_meaning.specs.Held.{plain_program}
use Rattle.hl_meaning.specs.Programs as plain_programs
use Rattle.hl_meaning.specs.declared.program.Program.{Program}
use Rattle.hl_rules.specs.Elaboration.{Elaborates}
use Rattle.hl_rules.specs.Rules.{BreaksFirst}
use Rattle.hl_types.specs.declared.fault.RuleFault.{RuleFault}
use Rattle.hl_types.specs.declared.fault.RuleFault.TheVariants.{Broken, Memory as NoRoomForProgram}
use Rattle.ir_core.specs.declared.module.Module.{Module}
use Rattle.dxil_driver.specs.declared.stores.FirstForm.{FirstForm}
use Rattle.dxil_driver.specs.Compiled.{most_source, IsContainerOf}
use Rattle.dxil_driver.specs.FirstForm.{form_of}
use Rattle.dxil_driver.specs.SourceText.{HasTokens, IsBrokenAt, SpellTooDeep, SpellTree, place_at, start}
use Rattle.dxil_driver.specs.declared.compiler.CompileFault.{CompileFault}
use Rattle.dxil_driver.specs.declared.compiler.CompileFault.TheVariants.{TooLong, Lex, Parse, Rule, Unbuilt, Memory}

-- the tokens are those of a text, with this end
abbrev pub AreTokens : List Lexeme → Place → Type 0
AreTokens tokens end = (text : List ℕ) × IsTokenList text tokens end

-- the tokens have this fault in place of a tree, at this place; a tree that is too deep is so from its start on
abbrev pub HasTreeFault : List Lexeme → Place → ParseFault → Place → Type 0
HasTreeFault tokens end (Syntax at) place = IsBrokenAt tokens end at place
HasTreeFault tokens end TooDeep place = SpellTooDeep tokens × (place ≡ start)
HasTreeFault tokens end NoRoomForTree place = ⊥

-- the tree has this fault in place of a program, at this place: a typing rule, the first that it breaks
abbrev pub TreeBreaks : plain.Tree → List Lexeme → Place → (entry : List ℕ) → RuleFault → Place → Type 0
TreeBreaks tree tokens end entry (Broken rule at) place = BreaksFirst tree tokens entry at rule × (place ≡ place_at tokens end at)
TreeBreaks tree tokens end entry NoRoomForProgram place = ⊥

-- the tokens spell a tree with this fault in place of a program, at this place
pub record HasRuleFault (tokens : List Lexeme) (end : Place) (entry : List ℕ) (fault : RuleFault) (place : Place) : Type 0 where
  pub tree : plain.Tree
  pub tree-is : SpellTree tokens tree
  pub breaks : TreeBreaks tree tokens end entry fault place

-- the tokens spell a tree that is elaborated to this program
pub record SpellProgram (tokens : List Lexeme) (entry : List ℕ) (program : plain_programs.Program) : Type 0 where
  pub tree : plain.Tree
  pub tree-is : SpellTree tokens tree
  pub elaborated : Elaborates tree tokens entry program

-- the tokens spell a program without a first form
pub record SpellOther (tokens : List Lexeme) (entry : List ℕ) : Type 0 where
  pub program : plain_programs.Program
  pub spelled : SpellProgram tokens entry program
  pub other : form_of program ≡ None

-- tokens have this fault in place of a program, for an entry of this name
abbrev pub HaveProgramFault : List Lexeme → Place → (entry : List ℕ) → CompileFault → Type 0
HaveProgramFault tokens end entry (Parse fault place) = HasTreeFault tokens end fault place
HaveProgramFault tokens end entry (Rule fault place) = HasRuleFault tokens end entry fault place
HaveProgramFault tokens end entry Unbuilt = ⊥
HaveProgramFault tokens end entry TooLong = ⊥
HaveProgramFault tokens end entry (Lex fault) = ⊥
HaveProgramFault tokens end entry Memory = ⊥

-- tokens have this fault, for an entry of this name
abbrev pub HaveFault : List Lexeme → Place → (entry : List ℕ) → CompileFault → Type 0
HaveFault tokens end entry Unbuilt = SpellOther tokens entry
HaveFault tokens end entry fault = HaveProgramFault tokens end entry fault

-- the text has tokens, and they have this fault
abbrev pub HasTokensFault : (text entry : List ℕ) → CompileFault → Type 0
HasTokensFault text entry fault = (tokens : List Lexeme) × ((end : Place) × HasTokens text tokens end × HaveFault tokens end entry fault)

-- the text has this fault, for an entry of this name
abbrev pub HasFault : (text entry : List ℕ) → CompileFault → Type 0
HasFault text entry TooLong = most_source < length text
HasFault text entry (Lex fault) = (length text ≤ most_source) × IsFirstFault text fault
HasFault text entry (Parse fault place) = (length text ≤ most_source) × HasTokensFault text entry (Parse fault place)
HasFault text entry (Rule fault place) = (length text ≤ most_source) × HasTokensFault text entry (Rule fault place)
HasFault text entry Unbuilt = (length text ≤ most_source) × HasTokensFault text entry Unbuilt
HasFault text entry Memory = ⊥

-- the text has tokens that spell a tree that is elaborated to this program, for an entry of this name
pub record HasProgram (text entry : List ℕ) (program : plain_programs.Program) : Type 0 where
  pub tokens : List Lexeme
  pub end : Place
  pub lexed : HasTokens text tokens end
  pub spelled : SpellProgram tokens entry program

-- the text has this fault in place of a program, for an entry of this name
abbrev pub HasProgramFault : (text entry : List ℕ) → CompileFault → Type 0
HasProgramFault text entry Unbuilt = ⊥
HasProgramFault text entry fault = HasFault text entry fault

-- the text has tokens that spell a tree that breaks this rule, and none before it, at a token that stands at this place
abbrev pub BreaksRule : (text entry : List ℕ) → (rule : ℕ) → Place → Type 0
BreaksRule text entry rule place = (at : ℕ) × HasTokensFault text entry (Rule (Broken rule at) place)

-- tokens spell a program with a first form, for an entry of this name
pub record SpellForm (tokens : List Lexeme) (entry : List ℕ) : Type 0 where
  pub program : plain_programs.Program
  pub spelled : SpellProgram tokens entry program
  pub form : FirstForm
  pub is_form : form_of program ≡ Some form

-- the bytes are a container of a program
pub record IsContainerOfProgram (program : plain_programs.Program) (bytes : List ℕ) : Type 0 where
  pub form : FirstForm
  pub is_form : form_of program ≡ Some form
  pub kernel : Module
  pub container : IsContainerOf form kernel bytes

-- the bytes are a container of what tokens spell
pub record IsContainerOfTokens (tokens : List Lexeme) (entry bytes : List ℕ) : Type 0 where
  pub program : plain_programs.Program
  pub spelled : SpellProgram tokens entry program
  pub made : IsContainerOfProgram program bytes

-- an answer names a fault of the tokens, with its place
abbrev pub NamesTreeFault : List Lexeme → Place → CompileFault → Type 0
NamesTreeFault tokens end (Parse fault place) = HasTreeFault tokens end fault place
NamesTreeFault tokens end TooLong = ⊥
NamesTreeFault tokens end (Lex fault) = ⊥
NamesTreeFault tokens end (Rule fault place) = ⊥
NamesTreeFault tokens end Unbuilt = ⊥
NamesTreeFault tokens end Memory = Unit {0}

-- an answer names a fault of the tree, with its place
abbrev pub NamesRuleFault : plain.Tree → List Lexeme → Place → (entry : List ℕ) → CompileFault → Type 0
NamesRuleFault tree tokens end entry (Rule fault place) = TreeBreaks tree tokens end entry fault place
NamesRuleFault tree tokens end entry TooLong = ⊥
NamesRuleFault tree tokens end entry (Lex fault) = ⊥
NamesRuleFault tree tokens end entry (Parse fault place) = ⊥
NamesRuleFault tree tokens end entry Unbuilt = ⊥
NamesRuleFault tree tokens end entry Memory = Unit {0}

-- the answer is this tree, or memory ran out
abbrev pub GivesTree : Result Tree CompileFault → plain.Tree → Type 0
GivesTree (Ok found) tree = plain_of found ≡ tree
GivesTree (Err Memory) tree = Unit {0}
GivesTree (Err TooLong) tree = ⊥
GivesTree (Err (Lex fault)) tree = ⊥
GivesTree (Err (Parse fault place)) tree = ⊥
GivesTree (Err (Rule fault place)) tree = ⊥
GivesTree (Err Unbuilt) tree = ⊥

-- the answer is this program, or memory ran out
abbrev pub GivesProgram : Result Program CompileFault → plain_programs.Program → Type 0
GivesProgram (Ok found) program = plain_program found ≡ program
GivesProgram (Err Memory) program = Unit {0}
GivesProgram (Err TooLong) program = ⊥
GivesProgram (Err (Lex fault)) program = ⊥
GivesProgram (Err (Parse fault place)) program = ⊥
GivesProgram (Err (Rule fault place)) program = ⊥
GivesProgram (Err Unbuilt) program = ⊥

-- the refusal of a text without tokens
abbrev pub of_tokens : LexFault → CompileFault
of_tokens NoRoomForTokens = Memory
of_tokens fault = Lex fault

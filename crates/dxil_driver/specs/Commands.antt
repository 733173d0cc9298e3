-- The commands: the words that ask for each, what it takes, and what it gives.
use Rattle.std.specs.Prelude.{◌≡◌, ◌⊎◌, ◌<◌, ℕ, List, [], ◌∷◌, length, codes}
use Rattle.ir_core.specs.declared.module.Module.{Module}
use Rattle.hl_lexer.specs.Tokens.{IsFirstFault}
use Rattle.hl_lexer.specs.declared.fault.LexFault.TheVariants.{BadByte as NoToken, NumberTooLarge as LargeNumber, TooManyTokens as MoreTokens}
use Rattle.dx_container.specs.Container.{FaultIs}
use Rattle.dxil_driver.specs.Check.{HasStreamFault, HasRecordFault, HasVerdict, Passes}
use Rattle.dxil_driver.specs.Compiled.{most_source, HasFirstForm, Compiled}
use Rattle.dxil_driver.specs.CompileFaults.{BreaksRule, HasTokensFault}
use Rattle.dxil_driver.specs.Options.{Chooses}
use Rattle.dxil_driver.specs.Refusal.{line}
use Rattle.dxil_driver.specs.SourceText.{HasSyntaxFault, IsTooDeep}
use Rattle.dxil_driver.specs.declared.command.Command.{Command}
use Rattle.dxil_driver.specs.declared.command.Command.TheVariants.{Compile, Check}
use Rattle.dxil_driver.specs.declared.compiler.CompileFault.TheVariants.{Unbuilt}
use Rattle.dxil_driver.specs.declared.options.Options.{Options}
use Rattle.dxil_driver.specs.declared.refusal.Refusal.{Refusal}
use Rattle.dxil_driver.specs.declared.refusal.Refusal.TheVariants.{BadByte, NumberTooLarge, TooManyTokens, Syntax, TooDeep, Rule, NotBuilt, Container, Stream, Records, Broken}

-- the words ask for a command: `compile` and its options, or `check` alone
pub data Asks : List (List ℕ) → Command → Type 0 where
  a_compilation : (word : List ℕ) (words : List (List ℕ)) (options : Options) → word ≡ codes "compile" → Chooses words options → Asks (word ∷ words) (Compile options)
  a_check : (word : List ℕ) → word ≡ codes "check" → Asks (word ∷ []) Check

-- the words ask for no command
abbrev pub IsUsage : List (List ℕ) → Type 0
IsUsage words = (command : Command) → ¬ Asks words command

-- how many bytes a container may have that is read: 2^26
abbrev pub most_container : ℕ
most_container = 67108864

-- how many bytes the input may have
abbrev pub limit_of : Command → ℕ
limit_of (Compile options) = most_source
limit_of Check = most_container

-- what is printed for a container that passes
abbrev pub ok_line : List ℕ
ok_line = line (codes "ok")

-- what is written for a whole input
abbrev pub Gives : Command → (input output : List ℕ) → Type 0
Gives (Compile options) text bytes = Compiled text options.entry bytes
Gives Check bytes text = (text ≡ ok_line) × ((m : Module) × Passes bytes m)

-- a whole input for which something is written
abbrev pub Accepts : Command → (input : List ℕ) → Type 0
Accepts (Compile options) text = HasFirstForm text options.entry
Accepts Check bytes = (m : Module) × Passes bytes m

-- a whole input that is refused for what it says
abbrev pub Refuses : Command → (input : List ℕ) → Refusal → Type 0
Refuses (Compile options) text (BadByte place) = IsFirstFault text (NoToken place)
Refuses (Compile options) text (NumberTooLarge place) = IsFirstFault text (LargeNumber place)
Refuses (Compile options) text TooManyTokens = IsFirstFault text MoreTokens
Refuses (Compile options) text (Syntax place) = HasSyntaxFault text place
Refuses (Compile options) text TooDeep = IsTooDeep text
Refuses (Compile options) text (Rule rule place) = BreaksRule text options.entry rule place
Refuses (Compile options) text NotBuilt = HasTokensFault text options.entry Unbuilt
Refuses Check bytes (Container fault) = FaultIs bytes fault.kind fault.offset
Refuses Check bytes (Stream kind bit) = HasStreamFault bytes kind bit
Refuses Check bytes (Records kind block at) = HasRecordFault bytes kind block at
Refuses Check bytes (Broken rule spot) = HasVerdict bytes rule spot
Refuses _ _ _ = ⊥

-- an input that is refused for its bytes
abbrev pub IsRefusedText : Command → List ℕ → Type 0
IsRefusedText command input = (limit_of command < length input) ⊎ ((refusal : Refusal) × Refuses command input refusal)

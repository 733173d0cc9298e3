-- What a refusal answers and prints.
use Rattle.std.specs.Prelude.{ℕ, List, [], ◌∷◌, ◌++◌, codes, decimal}
use Rattle.base_core.specs.declared.whole.ReadStop.{ReadStop}
use Rattle.base_core.specs.declared.whole.ReadStop.TheVariants.{Fault, TooLong as TookTooMuch, Memory as NoRoomToRead}
use Rattle.ir_core.specs.Spots.{spot_text}
use Rattle.base_core.specs.declared.place.Place.{Place}
use Rattle.hl_lexer.specs.declared.fault.LexFault.TheVariants.{BadByte as NoToken, NumberTooLarge as LargeNumber, TooManyTokens as MoreTokens, Memory as NoRoomForTokens}
use Rattle.hl_parser.specs.declared.fault.ParseFault.TheVariants.{Syntax as NoProgram, TooDeep as DeepTree, Memory as NoRoomForTree}
use Rattle.hl_types.specs.declared.fault.RuleFault.TheVariants.{Broken as BrokenRule, Memory as NoRoomForProgram}
use Rattle.bc_stream.specs.declared.fault.StreamFault.TheVariants.{Bad as BadStream, Memory as NoRoomForBlocks}
use Rattle.bc_records.specs.declared.fault.RecordFault.TheVariants.{Bad as BadRecord, Memory as NoRoomForRecords}
use Rattle.dxil_driver.specs.declared.checker.CheckFault.{CheckFault}
use Rattle.dxil_driver.specs.declared.checker.CheckFault.TheVariants.{Container as BadContainer, Stream as BadBitcode, Records as BadBlocks, Rules as BadModule, Memory as NoRoomToCheck}
use Rattle.dxil_driver.specs.declared.compiler.CompileFault.{CompileFault}
use Rattle.dxil_driver.specs.declared.compiler.CompileFault.TheVariants.{TooLong as TextTooLong, Lex, Parse, Rule as BadProgram, Unbuilt, Memory as NoRoomToCompile}
use Rattle.dxil_driver.specs.declared.status.Status.{Status}
use Rattle.dxil_driver.specs.declared.status.Status.TheVariants.{Done, Refused, Usage as UsageStatus, ReadFault as ReadFaultStatus, WriteFault, Memory as MemoryStatus}
use Rattle.dxil_driver.specs.declared.refusal.Refusal.{Refusal}
use Rattle.dxil_driver.specs.declared.refusal.Refusal.TheVariants.{Usage, ReadFault, TooLong, BadByte, NumberTooLarge, TooManyTokens, Syntax, TooDeep, Rule, NotBuilt, Container, Stream, Records, Broken, Memory}

-- the exit code of the process
abbrev pub code_of : Status → ℕ
code_of Done = 0
code_of Refused = 1
code_of UsageStatus = 2
code_of ReadFaultStatus = 3
code_of WriteFault = 4
code_of MemoryStatus = 5

abbrev pub status_of : Refusal → Status
status_of Usage = UsageStatus
status_of ReadFault = ReadFaultStatus
status_of Memory = MemoryStatus
status_of _ = Refused

abbrev pub line_feed : List ℕ
line_feed = 10 ∷ []

-- a text as a line: a line feed ends it
abbrev pub line : List ℕ → List ℕ
line text = text ++ line_feed

-- a line that begins with a place
abbrev pub line_at : Place → List ℕ → List ℕ
line_at place text = decimal place.line ++ (codes ":" ++ (decimal place.column ++ (codes ": " ++ (text ++ line_feed))))

abbrev pub line_of : Refusal → List ℕ
line_of Usage = line (codes "usage: dxil_cli compile [--target cs_6_0] [--entry NAME] | check")
line_of ReadFault = line (codes "error: read fault")
line_of TooLong = line (codes "error: too long")
line_of (BadByte place) = line_at place (codes "bad byte")
line_of (NumberTooLarge place) = line_at place (codes "number too large")
line_of TooManyTokens = line (codes "error: too many tokens")
line_of (Syntax place) = line_at place (codes "syntax")
line_of TooDeep = line (codes "error: too deep")
line_of (Rule rule place) = decimal place.line ++ (codes ":" ++ (decimal place.column ++ (codes ": rule " ++ (decimal rule ++ line_feed))))
line_of NotBuilt = line (codes "error: not built")
line_of (Container fault) = codes "error: container " ++ (decimal fault.kind ++ (codes " at " ++ (decimal fault.offset ++ line_feed)))
line_of (Stream kind bit) = codes "error: stream " ++ (decimal kind ++ (codes " at bit " ++ (decimal bit ++ line_feed)))
line_of (Records kind block at) = codes "error: records " ++ (decimal kind ++ (codes " at block " ++ (decimal block ++ (codes " record " ++ (decimal at ++ line_feed)))))
line_of (Broken rule spot) = codes "error: broken V" ++ (decimal rule ++ (codes " at " ++ (spot_text spot ++ line_feed)))
line_of Memory = line (codes "error: out of memory")

-- what is printed where the output fails
abbrev pub write_fault_line : List ℕ
write_fault_line = line (codes "error: write fault")

-- the refusal of an input that wasn't read whole
abbrev pub refusal_of_stop : ReadStop → Refusal
refusal_of_stop Fault = ReadFault
refusal_of_stop TookTooMuch = TooLong
refusal_of_stop NoRoomToRead = Memory

-- the refusal of a text that wasn't compiled
abbrev pub refusal_of_compile : CompileFault → Refusal
refusal_of_compile TextTooLong = TooLong
refusal_of_compile (Lex (NoToken place)) = BadByte place
refusal_of_compile (Lex (LargeNumber place)) = NumberTooLarge place
refusal_of_compile (Lex MoreTokens) = TooManyTokens
refusal_of_compile (Lex NoRoomForTokens) = Memory
refusal_of_compile (Parse (NoProgram at) place) = Syntax place
refusal_of_compile (Parse DeepTree place) = TooDeep
refusal_of_compile (Parse NoRoomForTree place) = Memory
refusal_of_compile (BadProgram (BrokenRule rule at) place) = Rule rule place
refusal_of_compile (BadProgram NoRoomForProgram place) = Memory
refusal_of_compile Unbuilt = NotBuilt
refusal_of_compile NoRoomToCompile = Memory

-- the refusal of a container that didn't pass
abbrev pub refusal_of_check : CheckFault → Refusal
refusal_of_check (BadContainer fault) = Container fault
refusal_of_check (BadBitcode (BadStream kind bit)) = Stream kind bit
refusal_of_check (BadBitcode NoRoomForBlocks) = Memory
refusal_of_check (BadBlocks (BadRecord kind block at)) = Records kind block at
refusal_of_check (BadBlocks NoRoomForRecords) = Memory
refusal_of_check (BadModule rule spot) = Broken rule spot
refusal_of_check NoRoomToCheck = Memory

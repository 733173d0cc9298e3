-- What the bytes of a container are to a check of them: which module they spell, or why they are refused.
use Rattle.std.specs.Prelude.{◌≡◌, ◌⊎◌, ℕ, List, Result, MatchResult, IsErrOf}
use Rattle.ir_core.specs.declared.module.Module.{Module}
use Rattle.ir_core.specs.declared.spot.Spot.{Spot}
use Rattle.bc_stream.specs.Blocks.{Contents}
use Rattle.bc_stream.specs.Spelling.{Spelled, Faulty}
use Rattle.bc_stream.specs.declared.fault.StreamFault.{StreamFault}
use Rattle.bc_stream.specs.declared.fault.StreamFault.TheVariants.{Bad as BadStream, Memory as NoRoomForBlocks}
use Rattle.bc_records.specs.RecordFaults.{IsFault}
use Rattle.bc_records.specs.declared.fault.RecordFault.{RecordFault}
use Rattle.bc_records.specs.declared.fault.RecordFault.TheVariants.{Bad as BadRecord, Memory as NoRoomForRecords}
use Rattle.dx_container.specs.Container.{Contained, FaultIs}
use Rattle.dx_container.specs.declared.content.ContainerFault.{ContainerFault}
use Rattle.dx_validate.specs.Verdict.{IsSpotless, IsVerdict}
use Rattle.dx_validate.specs.declared.verdict.Invalid.{Invalid}
use Rattle.dx_validate.specs.declared.verdict.Invalid.TheVariants.{Broken, Memory as NoRoomToValidate}
use Rattle.dxil_driver.specs.Compiled.{Spells}
use Rattle.dxil_driver.specs.declared.checker.CheckFault.{CheckFault}
use Rattle.dxil_driver.specs.declared.checker.CheckFault.TheVariants.{Container, Stream, Records, Rules, Memory}

-- the bytes are a container of this bitcode
pub record Holds (bytes bitcode : List ℕ) : Type 0 where
  pub major : ℕ
  pub minor : ℕ
  pub contained : Contained bytes bitcode major minor

-- the bytes are a container of a bitcode with this fault
pub record HasStreamFault (bytes : List ℕ) (kind bit : ℕ) : Type 0 where
  pub bitcode : List ℕ
  pub holds : Holds bytes bitcode
  pub faulty : Faulty bitcode kind bit

-- the bytes are a container of a bitcode that spells blocks with this fault
pub record HasRecordFault (bytes : List ℕ) (kind block at : ℕ) : Type 0 where
  pub bitcode : List ℕ
  pub holds : Holds bytes bitcode
  pub blocks : Contents
  pub spelled : Spelled bitcode blocks
  pub faulty : IsFault blocks kind block at

-- the bytes spell a module that breaks this rule, first at this spot, and none of a lesser number
pub record HasVerdict (bytes : List ℕ) (rule : ℕ) (spot : Spot) : Type 0 where
  pub m : Module
  pub spells : Spells bytes m
  pub verdict : IsVerdict m rule spot

-- the bytes spell a module that breaks no rule
unfoldable pub Passes : (bytes : List ℕ) → Module → Type 0
Passes bytes m = Spells bytes m × IsSpotless m

-- Bytes are refused for the fault of the first layer that has one.
pub data Fails (bytes : List ℕ) : CheckFault → Type 0 where
  in_container : (fault : ContainerFault) → FaultIs bytes fault.kind fault.offset → Fails bytes (Container fault)
  in_stream : (kind bit : ℕ) → HasStreamFault bytes kind bit → Fails bytes (Stream (BadStream kind bit))
  in_records : (kind block at : ℕ) → HasRecordFault bytes kind block at → Fails bytes (Records (BadRecord kind block at))
  in_module : (rule : ℕ) (spot : Spot) → HasVerdict bytes rule spot → Fails bytes (Rules rule spot)

-- the fault of a layer as that of the whole

abbrev pub of_stream : StreamFault → CheckFault
of_stream (BadStream kind bit) = Stream (BadStream kind bit)
of_stream NoRoomForBlocks = Memory

abbrev pub of_records : RecordFault → CheckFault
of_records (BadRecord kind block at) = Records (BadRecord kind block at)
of_records NoRoomForRecords = Memory

abbrev pub of_verdict : Invalid → CheckFault
of_verdict (Broken rule spot back) = Rules rule spot
of_verdict (NoRoomToValidate back) = Memory

-- the fault is that of the bytes, or memory was refused
abbrev pub IsRefused : (bytes : List ℕ) → CheckFault → Type 0
IsRefused bytes fault = (fault ≡ Memory) ⊎ Fails bytes fault

-- the module that was checked passes
abbrev pub IsChecked : (bytes : List ℕ) → Result Module CheckFault → Type 0
IsChecked bytes answer = MatchResult answer (Passes bytes) (IsRefused bytes)

-- this module, or memory was refused
abbrev pub GivesModule : Module → Result Module CheckFault → Type 0
GivesModule m answer = MatchResult answer (λ given. given ≡ m) (λ fault. fault ≡ Memory)

-- this fault, or memory was refused
abbrev pub NamesFault : CheckFault → Result Module CheckFault → Type 0
NamesFault fault answer = IsErrOf answer fault ⊎ IsErrOf answer Memory

-- Bytes have at most one answer: they pass with one module, or fail for one fault.
pub record HasOneAnswer : Type 0 where
  pub one_module : (bytes : List ℕ) (m n : Module) → Passes bytes m → Passes bytes n → m ≡ n
  pub one_fault : (bytes : List ℕ) (fault other : CheckFault) → Fails bytes fault → Fails bytes other → fault ≡ other
  pub not_both : (bytes : List ℕ) (m : Module) (fault : CheckFault) → Passes bytes m → Fails bytes fault → ⊥

-- What the reader of records answers.
use Rattle.std.specs.Prelude.{◌≡◌, ◌⊎◌, ℕ, Result, MatchResult}
use Rattle.ir_core.specs.declared.module.Module.{Module}
use Rattle.bc_stream.specs.Blocks.{Contents}
use Rattle.bc_records.specs.declared.fault.RecordFault.{RecordFault}
use Rattle.bc_records.specs.declared.fault.RecordFault.TheVariants.{Bad, Memory}
use Rattle.bc_records.specs.RecordFaults.{IsFault}

-- It names the fault of the list, or memory was refused.
abbrev pub IsBadList : Contents → RecordFault → Type 0
IsBadList blocks (Bad kind block at) = IsFault blocks kind block at
IsBadList blocks Memory = Unit {0}

-- this module, or memory was refused
abbrev pub GivesModule : Module → Result Module RecordFault → Type 0
GivesModule m answer = MatchResult answer (λ given. given ≡ m) (λ fault. fault ≡ Memory)

-- this fault, or memory was refused
abbrev pub NamesFault : (kind block at : ℕ) → Result Module RecordFault → Type 0
NamesFault kind block at answer = MatchResult answer (λ given. ⊥) (λ fault. (fault ≡ Bad kind block at) ⊎ (fault ≡ Memory))

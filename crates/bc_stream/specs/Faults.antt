-- What an answer says where bytes spell no blocks.
use Rattle.std.specs.Prelude.{ℕ, List}
use Rattle.bc_stream.specs.declared.fault.StreamFault.{StreamFault}
use Rattle.bc_stream.specs.declared.fault.StreamFault.TheVariants.{Bad, Memory}
use Rattle.bc_stream.specs.Spelling.{Faulty}

-- It names the fault of the bytes, or memory was refused.
abbrev pub IsBad : List ℕ → StreamFault → Type 0
IsBad bytes (Bad kind bit) = Faulty bytes kind bit
IsBad bytes Memory = Unit {0}

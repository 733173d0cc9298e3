use Rattle.std.proofs.Common.{◌≡◌, ◌++◌, map}
use Rattle.bc_stream.specs.Blocks.{parts_contents}
use Rattle.bc_records.specs.ConstantRecords.{constants_of}
use Rattle.bc_records.specs.Entries.{entries_in}
use Rattle.bc_records.specs.Read.{read_constant}
use Rattle.bc_records.proofs.ReadSteps.{from}
use Rattle.bc_records.proofs.read.constants.push_block.Given as goal

abbrev pub invariant-loop-part : goal.invariant-loop-part
invariant-loop-part l =
    l.constants ++ constants_of l.ty (map read_constant (entries_in (from l.part-items l.part-index)))
    ≡ l.initial.constants ++ constants_of 0 (map read_constant (entries_in (parts_contents l.part-items)))

use Rattle.std.proofs.Common.{◌≡◌, []}
use Rattle.bc_stream.specs.Blocks.{parts_contents}
use Rattle.bc_records.specs.Entries.{entries_in}
use Rattle.bc_records.specs.Read.{word}
use Rattle.bc_records.specs.ReadBodies.{blocks_with}
use Rattle.bc_records.proofs.ReadSteps.{from}
use Rattle.bc_records.proofs.read.bodies.filled.Given as goal

abbrev pub invariant-loop-part : goal.invariant-loop-part
invariant-loop-part l =
    blocks_with l.module l.blocks l.insts l.next (entries_in (from l.part-items l.part-index))
    ≡ blocks_with l.module [] [] (word l.first) (entries_in (parts_contents l.part-items))

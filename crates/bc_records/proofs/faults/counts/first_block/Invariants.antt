use Rattle.std.proofs.Common.{◌≡◌}
use Rattle.bc_stream.specs.Blocks.{parts_contents}
use Rattle.bc_records.specs.Entries.{blocks_in}
use Rattle.bc_records.proofs.FaultWalk.{left}
use Rattle.bc_records.proofs.faults.counts.first_block.Given as goal

abbrev pub invariant-loop-part : goal.invariant-loop-part
invariant-loop-part l = blocks_in l.id (parts_contents l.parts) ≡ blocks_in l.id (left l.parts l.part-index)

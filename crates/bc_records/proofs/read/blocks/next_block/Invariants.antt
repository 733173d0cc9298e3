use Rattle.std.proofs.Common.{◌≡◌}
use Rattle.bc_stream.specs.Blocks.{parts_contents}
use Rattle.bc_records.specs.Entries.{blocks_in}
use Rattle.bc_records.proofs.ReadSteps.{from}
use Rattle.bc_records.proofs.read.blocks.next_block.Given as goal

abbrev pub invariant-loop-place : goal.invariant-loop-place
invariant-loop-place l = blocks_in l.id (from l.parts l.place) ≡ blocks_in l.id (parts_contents l.parts)

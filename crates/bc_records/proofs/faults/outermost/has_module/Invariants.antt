use Rattle.std.proofs.Common.{◌≡◌}
use Rattle.bc_stream.specs.Blocks.{contents_of}
use Rattle.bc_records.specs.Entries.{blocks_in}
use Rattle.bc_records.proofs.FaultOuter.{outer_left}
use Rattle.bc_records.proofs.faults.outermost.has_module.Given as goal

abbrev pub invariant-loop-block : goal.invariant-loop-block
invariant-loop-block l = blocks_in 8 (contents_of l.blocks) ≡ blocks_in 8 (outer_left l.blocks l.block-index)

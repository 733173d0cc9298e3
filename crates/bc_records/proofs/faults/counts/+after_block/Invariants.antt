use Rattle.std.proofs.Common.{◌≡◌, ◌+◌, suc, ◌<◌, ◌^◌}
use Rattle.bc_stream.specs.Blocks.{parts_contents}
use Rattle.bc_records.specs.Entries.{block_count}
use Rattle.bc_records.proofs.FaultWalk.{past}
use Rattle.bc_records.proofs.faults.counts.+after_block.Given as goal

abbrev pub invariant-loop-part : goal.invariant-loop-part
invariant-loop-part l =
    l.number + suc (block_count (parts_contents l.part-items)) < 2 ^ 32 → l.next ≡ l.number + suc (block_count (past l.part-items l.part-index))

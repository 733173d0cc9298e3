use Rattle.std.proofs.Common.{◌≡◌, ◌+◌, ◌<◌, length}
use Rattle.bc_records.specs.Codes.{module_block}
use Rattle.bc_records.specs.Entries.{block_count}
use Rattle.bc_records.specs.RecordKinds.{has_block}
use Rattle.bc_records.proofs.FaultOuter.{outer_past, OuterWalked}
use Rattle.bc_records.proofs.faults.outermost.outer_faults.Given as goal

abbrev pub invariant-loop-block : goal.invariant-loop-block
invariant-loop-block l = record {
  walked : OuterWalked l.blocks l.block-index;
  seen : has_block module_block (outer_past l.blocks l.block-index) ≡ l.seen;
  left : l.left + l.block-index ≡ length l.blocks;
  numbered : l.block-index < length l.blocks → l.number ≡ block_count (outer_past l.blocks l.block-index);
}

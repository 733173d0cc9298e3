use Rattle.std.proofs.Common.{◌≡◌, ◌%◌, [], length, take}
use Rattle.bc_stream.specs.Blocks.{contents_of}
use Rattle.bc_stream.specs.Writing.{WroteAll}
use Rattle.bc_stream.proofs.write.write_blocks.Given as goal

abbrev pub invariant-loop-block : goal.invariant-loop-block
invariant-loop-block l = record {
  wrote : WroteAll 2 (contents_of (take l.block-index l.block-items)) [] l.writer;
  whole : length l.writer % 32 ≡ 0;
}

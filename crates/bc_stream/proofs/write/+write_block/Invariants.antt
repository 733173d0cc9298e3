use Rattle.std.proofs.Common.{[], take}
use Rattle.bc_stream.specs.Blocks.{parts_contents}
use Rattle.bc_stream.specs.Writing.{WroteAll}
use Rattle.bc_stream.proofs.write.+write_block.Given as goal

abbrev pub invariant-loop-part : goal.invariant-loop-part
invariant-loop-part l = WroteAll 3 (parts_contents (take l.part-index l.part-items)) [] l.body

use Rattle.std.proofs.Common.{◌*◌, ◌-◌, length}
use Rattle.bc_stream.specs.Blocks.{contents_of}
use Rattle.bc_stream.specs.Bodies.{BlocksAt}
use Rattle.bc_stream.proofs.read.read_all.Given as goal

abbrev pub invariant-loop-alloc : goal.invariant-loop-alloc
invariant-loop-alloc l = BlocksAt l.bytes (contents_of l.blocks) l.at

abbrev pub decreases-loop-alloc : goal.decreases-loop-alloc
decreases-loop-alloc l = 8 * length l.bytes - l.at

use Rattle.std.proofs.Common.{◌≡◌, ◌*◌, ◌-◌, [], length}
use Rattle.bc_stream.specs.Blocks.{parts_contents}
use Rattle.bc_stream.specs.Bodies.{PartsAt}
use Rattle.bc_stream.proofs.read.+read_body.Given as goal

abbrev pub decreases-read_body : goal.decreases-read_body
decreases-read_body l = 17 - l.scope.levels

abbrev pub invariant-loop-few : goal.invariant-loop-few
invariant-loop-few l = record {
  whole : PartsAt l.bytes l.scope l.fn.at (parts_contents l.parts.items) l.to;
  empty : l.inner_parts.items ≡ [];
}

abbrev pub decreases-loop-few : goal.decreases-loop-few
decreases-loop-few l = 8 * length l.bytes - l.to

use Rattle.std.proofs.Common.{◌≡◌, vec_len}
use Rattle.bc_records.specs.ReadBodies.{with_bodies}
use Rattle.bc_records.proofs.read.defined.set_bodies.Given as goal

abbrev pub invariant-loop-last : goal.invariant-loop-last
invariant-loop-last l = with_bodies l.functions.items l.left.items ≡ with_bodies l.initial.functions.items l.initial.left.items

abbrev pub decreases-loop-last : goal.decreases-loop-last
decreases-loop-last l = vec_len l.left

use Rattle.std.proofs.Common.{◌+◌, ◌-◌, ◌^◌, ◌<◌, ◌≤◌}
use Rattle.bc_stream.specs.Reading.{ChunksAt}
use Rattle.bc_stream.proofs.reader.read_short.Given as goal

abbrev pub invariant-loop-used : goal.invariant-loop-used
invariant-loop-used l = record {
  read : ChunksAt l.bytes l.unit l.at (l.at + l.used) l.sum l.shift;
  small : l.sum < 2 ^ l.shift;
  within : l.used ≤ 57;
  few : l.shift ≤ l.used;
}

abbrev pub decreases-loop-used : goal.decreases-loop-used
decreases-loop-used l = 57 - l.used

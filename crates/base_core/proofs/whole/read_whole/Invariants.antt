-- What was read so far was taken from the front of what was left.
use Rattle.std.proofs.Common.{◌≡◌, ◌+◌, ◌-◌, ◌≤◌, length}
use Rattle.std.specs.Io.KnownBytes.{Consumes}
use Rattle.base_core.proofs.whole.read_whole.Given as goal

abbrev pub invariant-pieces : goal.invariant-pieces
invariant-pieces g l = record {
  consumed : Consumes (g.I.Source.left l.initial.input) (g.I.Source.left l.input) l.bytes;
  counted : g.I.Source.taken l.input ≡ g.I.Source.taken l.initial.input + length l.bytes;
  within : length l.bytes ≤ l.limit;
  lasting : g.I.Source.faults l.initial.input ≤ g.I.Source.faults l.input;
}

abbrev pub decreases-pieces : goal.decreases-pieces
decreases-pieces g l = l.limit - length l.bytes

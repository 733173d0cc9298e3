use Rattle.std.proofs.Common.{◌≡◌, ◌≤◌}
use Rattle.std.specs.Vec.{vec_len, vec_capacity}
use Rattle.bc_stream.specs.Reading.{ListAt}
use Rattle.bc_stream.proofs.record.read_values.Given as goal

abbrev pub invariant-loop-index : goal.invariant-loop-index
invariant-loop-index l = record {
  read : ListAt l.bytes l.index l.fn.at l.list.items l.to;
  length-is : vec_len l.list ≡ l.index;
  room : l.count ≤ vec_capacity l.list;
}

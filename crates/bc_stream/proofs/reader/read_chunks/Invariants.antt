use Rattle.std.proofs.Common.{◌*◌, ◌-◌, length}
use Rattle.bc_stream.specs.Reading.{ChunksAt}
use Rattle.bc_stream.proofs.reader.read_chunks.Given as goal

abbrev pub invariant-loop-chunk : goal.invariant-loop-chunk
invariant-loop-chunk l = ChunksAt l.bytes l.unit l.fn.at l.to l.sum l.shift

abbrev pub decreases-loop-chunk : goal.decreases-loop-chunk
decreases-loop-chunk l = 8 * length l.bytes - l.to

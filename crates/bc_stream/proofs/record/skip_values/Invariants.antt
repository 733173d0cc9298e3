use Rattle.bc_stream.specs.Reading.{SkippedAt}
use Rattle.bc_stream.proofs.record.skip_values.Given as goal

abbrev pub invariant-loop-index : goal.invariant-loop-index
invariant-loop-index l = SkippedAt l.bytes l.index l.fn.at l.to

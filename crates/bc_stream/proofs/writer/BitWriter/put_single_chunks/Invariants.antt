use Rattle.bc_stream.proofs.WroteLemmas.{SoFar}
use Rattle.bc_stream.proofs.writer.BitWriter.put_single_chunks.Given as goal

abbrev pub invariant-loop-rest : goal.invariant-loop-rest
invariant-loop-rest l = record {
  so_far : SoFar l.unit l.number l.rest l.fn.self l.self;
}

abbrev pub decreases-loop-rest : goal.decreases-loop-rest
decreases-loop-rest l = l.rest

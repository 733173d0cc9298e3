use Rattle.std.proofs.Common.{◌<◌, arith}
use Rattle.std.proofs.lemmas.Nat.{one_shl}
use Rattle.bc_stream.proofs.WroteLemmas.{four_fewer, next_four, rest_of_chunks}
use Rattle.bc_stream.proofs.writer.BitWriter.put_joined_chunks.Goals as goal

pub loop-rest-smaller : goal.loop-rest-smaller
loop-rest-smaller c =
    let small : c.args.unit < 64 = omega arith in
    four_fewer c.args.unit c.loop-rest.rest c.requires.0 (omega (arith, one_shl c.args.unit 64 small))

pub loop-rest-preserved : goal.loop-rest-preserved
loop-rest-preserved c = record {
  so_far = next_four c.args.unit c.args.number c.loop-rest.rest
      c.flagged.result c.flagged-in-loop-rest.result c.flagged-in-loop-rest-2.result c.flagged-in-loop-rest-3.result
      c.args.self.now c.loop-rest.self c.put_four.new.self c.loop-rest.invariant.so_far
      c.flagged.ensures c.flagged-in-loop-rest.ensures c.flagged-in-loop-rest-2.ensures c.flagged-in-loop-rest-3.ensures
      c.in_ok-put_four.ensures;
}

pub returns : goal.returns
returns c =
    rest_of_chunks c.args.unit c.args.number c.loop-rest.rest c.args.self.now c.loop-rest.self c.put_last_chunks.new.self
    c.loop-rest.invariant.so_far c.in_ok-put_last_chunks.ensures

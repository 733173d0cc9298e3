use Rattle.std.proofs.Common.{◌<◌, arith}
use Rattle.std.proofs.lemmas.Nat.{one_shl, pow_pos}
use Rattle.bc_stream.proofs.WroteLemmas.{fewer, next_chunk, end_of_chunks}
use Rattle.bc_stream.proofs.writer.BitWriter.put_single_chunks.Goals as goal

pub loop-rest-smaller : goal.loop-rest-smaller
loop-rest-smaller c =
    let small : c.args.unit < 64 = omega arith in
    fewer c.args.unit c.loop-rest.rest c.requires.0 (omega (arith, one_shl c.args.unit 64 small, pow_pos c.args.unit))

pub loop-rest-preserved : goal.loop-rest-preserved
loop-rest-preserved c = record {
  so_far = next_chunk c.args.unit c.args.number c.loop-rest.rest c.flagged.result c.args.self.now c.loop-rest.self c.put.new.self
      c.loop-rest.invariant.so_far c.flagged.ensures c.in_ok-put.ensures;
}

pub returns : goal.returns
returns c =
    let small : c.args.unit < 64 = omega arith in
    end_of_chunks c.args.unit c.args.number c.loop-rest.rest c.args.self.now c.loop-rest.self c.put-2.new.self
    c.loop-rest.invariant.so_far (omega (arith, one_shl c.args.unit 64 small)) c.in_ok-put-2.ensures

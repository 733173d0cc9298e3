use Rattle.std.proofs.Common.{◌<◌, arith}
use Rattle.std.proofs.lemmas.Nat.{one_shl}
use Rattle.bc_stream.proofs.WroteLemmas.{one_chunk, two_chunks, three_chunks, four_chunks}
use Rattle.bc_stream.proofs.writer.BitWriter.put_last_chunks.Goals as goal

pub returns-then-number-more : goal.returns-then-number-more
returns-then-number-more c =
    let small : c.args.unit < 64 = omega arith in
    one_chunk c.args.unit c.args.number c.args.self.now c.put.new.self (omega (arith, one_shl c.args.unit 64 small)) c.in_ok-put.ensures

pub returns-then-second-more : goal.returns-then-second-more
returns-then-second-more c =
    let small : c.args.unit < 64 = omega arith in
    two_chunks c.args.unit c.args.number c.flagged-first.result c.args.self.now c.put_two.new.self (omega (arith, one_shl c.args.unit 64 small))
    c.flagged-first.ensures c.in_ok-put_two.ensures

pub returns-then-third-more : goal.returns-then-third-more
returns-then-third-more c =
    let small : c.args.unit < 64 = omega arith in
    three_chunks c.args.unit c.args.number c.flagged-first.result c.flagged-second.result c.args.self.now c.put_three.new.self
    (omega (arith, one_shl c.args.unit 64 small)) c.flagged-first.ensures c.flagged-second.ensures c.in_ok-put_three.ensures

pub returns : goal.returns
returns c =
    four_chunks c.args.unit c.args.number c.flagged-first.result c.flagged-second.result c.flagged.result c.args.self.now c.put_four.new.self
    c.requires.few c.flagged-first.ensures c.flagged-second.ensures c.flagged.ensures c.in_ok-put_four.ensures

use Rattle.bc_stream.proofs.WriterLemmas.{four_joined, joined_below}
use Rattle.bc_stream.proofs.writer.BitWriter.put_four.Goals as goal

pub put_two-requires-clause-first : goal.put_two-requires-clause-first
put_two-requires-clause-first c =
    joined_below c.args.width c.args.width c.args.first c.args.second c.joined-front.result c.requires.first c.requires.second c.joined-front.ensures

pub put_two-requires-clause-second : goal.put_two-requires-clause-second
put_two-requires-clause-second c =
    joined_below c.args.width c.args.width c.args.third c.args.fourth c.joined-behind.result c.requires.third c.requires.fourth c.joined-behind.ensures

pub returns : goal.returns
returns c =
    four_joined c.args.width c.args.first c.args.second c.args.third c.args.fourth c.joined-front.result c.joined-behind.result
    c.args.self.now c.put_two.new.self c.requires.first c.requires.third c.joined-front.ensures c.joined-behind.ensures c.in_ok-put_two.ensures

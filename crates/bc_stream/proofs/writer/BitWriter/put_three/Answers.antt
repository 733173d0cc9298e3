use Rattle.std.proofs.Common.{◌+◌}
use Rattle.bc_stream.proofs.WriterLemmas.{three_joined, joined_below}
use Rattle.bc_stream.proofs.writer.BitWriter.put_three.Goals as goal

pub put-requires-clause-fits : goal.put-requires-clause-fits
put-requires-clause-fits c =
    joined_below c.args.width (c.args.width + c.args.width) c.args.first c.joined-behind.result c.joined.result c.requires.first
    (joined_below c.args.width c.args.width c.args.second c.args.third c.joined-behind.result c.requires.second c.requires.third c.joined-behind.ensures)
    c.joined.ensures

pub returns : goal.returns
returns c =
    three_joined c.args.width c.args.first c.args.second c.args.third c.joined-behind.result c.joined.result c.args.self.now c.put.new.self
    c.requires.first c.requires.second c.joined-behind.ensures c.joined.ensures c.in_ok-put.ensures

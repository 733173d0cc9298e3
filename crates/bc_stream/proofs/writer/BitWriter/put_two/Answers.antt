use Rattle.bc_stream.proofs.WriterLemmas.{two_joined, joined_below}
use Rattle.bc_stream.proofs.writer.BitWriter.put_two.Goals as goal

pub put-requires-clause-fits : goal.put-requires-clause-fits
put-requires-clause-fits c =
    joined_below c.args.width c.args.width c.args.first c.args.second c.joined.result c.requires.first c.requires.second c.joined.ensures

pub returns : goal.returns
returns c =
    two_joined c.args.width c.args.first c.args.second c.joined.result c.args.self.now c.put.new.self c.requires.first c.joined.ensures c.in_ok-put.ensures

use Rattle.bc_stream.proofs.WriterLemmas.{none_used, whole_words}
use Rattle.bc_stream.proofs.writer.BitWriter.into_bytes.Goals as goal

pub returns-clause-bits : goal.returns-clause-bits
returns-clause-bits c =
    let w = c.self.inside in
    whole_words w.words c.args.self w.used w.last
    (none_used w.words c.args.self w.used w.last c.self.invariant.1 c.self.view_is c.self.invariant.0 c.requires) c.self.view_is

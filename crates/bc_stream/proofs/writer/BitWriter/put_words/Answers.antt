use Rattle.std.proofs.Common.{◌++◌, ap, ◌∙◌}
use Rattle.bc_stream.proofs.WriterLemmas.{none_used, put_after}
use Rattle.bc_stream.proofs.writer.BitWriter.put_words.Goals as goal

pub returns : goal.returns
returns c =
    let w = c.self.inside in
    put_after w.words c.args.words.now c.extend_from_slice.new.self c.args.self.now w.used w.last
    (none_used w.words c.args.self.now w.used w.last c.self.invariant.1 c.self.view_is c.self.invariant.0 c.requires.aligned)
    c.self.view_is (c.in_ok-extend_from_slice.ensures.ok ∙ ap (λ x. w.words ++ x) c.as_slice.ensures.value)

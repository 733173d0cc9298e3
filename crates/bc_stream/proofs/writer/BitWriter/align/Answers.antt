use Rattle.std.proofs.Common.{◌-◌, ◌/◌, ◌^◌, ◌++◌, length, ap, ◌∙◌, refl, arith}
use Rattle.std.proofs.lemmas.List.{length-append}
use Rattle.bc_stream.specs.Bits.{low_bits}
use Rattle.bc_stream.proofs.BitLemmas.{length-low_bits}
use Rattle.bc_stream.proofs.WriterLemmas.{on_word}
use Rattle.bc_stream.proofs.WroteLemmas.{wrote_no_gap, wrote_gap, filled, words_length}
use Rattle.bc_stream.proofs.writer.BitWriter.align.Goals as goal

pub returns-then-self-eq0-clause-whole : goal.returns-then-self-eq0-clause-whole
returns-then-self-eq0-clause-whole c =
    let w = c.self.inside in
    on_word w.words c.args.self.now w.used w.last c.if-self-eq0.true c.self.invariant.0 c.self.view_is

pub returns-then-self-eq0-clause-aligned : goal.returns-then-self-eq0-clause-aligned
returns-then-self-eq0-clause-aligned c = wrote_no_gap c.args.self.now (returns-then-self-eq0-clause-whole c)

pub returns-clause-whole : goal.returns-clause-whole
returns-clause-whole c =
    words_length c.extend_from_slice.new.self _
    (omega (arith, ap length c.in_ok-extend_from_slice.ensures.ok, ap length c.to_le_bytes.ensures, length-append c.self.inside.words c.to_le_bytes.result, c.self.invariant.0))
    refl

pub returns-clause-aligned : goal.returns-clause-aligned
returns-clause-aligned c =
    let w = c.self.inside in
    wrote_gap (low_bits (32 - w.used) (w.last / 2 ^ w.used)) c.args.self.now _
    (omega (arith, length-low_bits (32 - w.used) (w.last / 2 ^ w.used), c.self.invariant.1, c.if-self-eq0.false))
    (filled w.words c.extend_from_slice.new.self c.args.self.now w.used w.last c.self.invariant.1 c.self.view_is
    (c.in_ok-extend_from_slice.ensures.ok ∙ ap (λ x. w.words ++ x) c.to_le_bytes.ensures))
    (returns-clause-whole c)

use Rattle.std.proofs.Common.{◌<◌, ◌≤◌, ◌+◌, ◌*◌, ◌%◌, ◌^◌, ap, subst, sym, arith, length, ◌++◌, ◌∙◌}
use Rattle.std.proofs.lemmas.List.{length-append}
use Rattle.bc_stream.proofs.WriterLemmas.{shifted, both_below, put_within, put_beyond, beyond_below}
use Rattle.bc_stream.proofs.writer.BitWriter.put.Goals as goal

pub invariant_of-self : goal.invariant_of-self
invariant_of-self c =
    let w = c.self.inside in
    let small : w.used < 32 = c.self.invariant.1 in
    let e = shifted c.args.number w.used c.args.width c.requires.fits small c.requires.width in (
      c.self.invariant.0,
      omega arith,
      subst (λ x. w.last + x < 2 ^ (w.used + c.args.width)) (sym e) (both_below w.last c.args.number w.used c.args.width c.self.invariant.2 c.requires.fits),
    )

pub returns-then-count-lt-WORD_BITS : goal.returns-then-count-lt-WORD_BITS
returns-then-count-lt-WORD_BITS c =
    let w = c.self.inside in
    let small : w.used < 32 = c.self.invariant.1 in
    let e = shifted c.args.number w.used c.args.width c.requires.fits small c.requires.width in
    put_within w.words c.args.self.now w.used c.args.width w.last c.args.number (c.args.number * 2 ^ w.used % 2 ^ 64) c.self.invariant.2 e c.self.view_is

pub invariant_of-self-2 : goal.invariant_of-self-2
invariant_of-self-2 c =
    let w = c.self.inside in
    let small : w.used < 32 = c.self.invariant.1 in
    let e = shifted c.args.number w.used c.args.width c.requires.fits small c.requires.width in
    let full : 32 ≤ w.used + c.args.width = omega arith in (
      omega (arith, ap length c.in_ok-extend_from_slice.ensures.ok, ap length c.to_le_bytes.ensures, length-append w.words c.to_le_bytes.result, c.self.invariant.0),
      omega arith,
      beyond_below w.last c.args.number (c.args.number * 2 ^ w.used % 2 ^ 64) w.used c.args.width c.self.invariant.2 c.requires.fits full e,
    )

pub returns : goal.returns
returns c =
    let w = c.self.inside in
    let small : w.used < 32 = c.self.invariant.1 in
    let e = shifted c.args.number w.used c.args.width c.requires.fits small c.requires.width in
    let full : 32 ≤ w.used + c.args.width = omega arith in
    put_beyond w.words c.extend_from_slice.new.self c.args.self.now w.used c.args.width w.last c.args.number (c.args.number * 2 ^ w.used % 2 ^ 64)
    c.self.invariant.2 full e c.self.view_is
    (c.in_ok-extend_from_slice.ensures.ok ∙ ap (λ x. w.words ++ x) c.to_le_bytes.ensures)

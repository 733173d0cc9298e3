use Rattle.std.proofs.Common.{length, ap, subst, arith}
use Rattle.std.proofs.lemmas.List.{length-append}
use Rattle.std.proofs.lemmas.Nat.{pow_below}
use Rattle.bc_stream.specs.Bits.{low_bits, ◌then◌, Fixed, Aligned, Vbr}
use Rattle.bc_stream.specs.Writing.{Wrote}
use Rattle.bc_stream.proofs.BitLemmas.{length-low_bits}
use Rattle.bc_stream.proofs.WroteLemmas.{wrote_then, wrote_fixed}
use Rattle.bc_stream.proofs.write.put_enter.Goals as goal

pub put-requires-clause-fits : goal.put-requires-clause-fits
put-requires-clause-fits c = pow_below 0 c.args.width c.requires.width.0

pub returns-clause-wrote : goal.returns-clause-wrote
returns-clause-wrote c =
    let old = c.args.writer.now in
    let one = c.put.new.self in
    let two = c.put_chunks.new.self in
    let three = c.put_chunks-2.new.self in
    let four = c.align.new.self in
    let five = c.put-2.new.self in
    let a = wrote_fixed c.args.width 1 old one (pow_below 0 c.args.width c.requires.width.0) c.in_ok-put.ensures in
    let e = wrote_fixed 32 c.args.words four five c.requires.words c.in_ok-put-2.ensures in
    let d = wrote_then Aligned (Fixed 32 c.args.words) three four five c.in_ok-align.ensures.aligned e in
    let b = wrote_then (Vbr 4 3) (Aligned then Fixed 32 c.args.words) two three five (subst (λ n. Wrote (Vbr 4 n) two three) c.from-2.ensures c.in_ok-put_chunks-2.ensures) d in
    let f = wrote_then (Vbr 8 c.args.id) (Vbr 4 3 then Aligned then Fixed 32 c.args.words) one two five (subst (λ n. Wrote (Vbr 8 n) one two) c.from.ensures c.in_ok-put_chunks.ensures) b in
    wrote_then (Fixed c.args.width 1) (Vbr 8 c.args.id then Vbr 4 3 then Aligned then Fixed 32 c.args.words) old one five a f

pub returns-clause-whole : goal.returns-clause-whole
returns-clause-whole c =
    omega (arith, ap length c.in_ok-put-2.ensures, length-append c.align.new.self (low_bits 32 c.args.words), length-low_bits 32 c.args.words, c.in_ok-align.ensures.whole)

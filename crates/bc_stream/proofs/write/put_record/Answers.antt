use Rattle.std.proofs.Common.{◌<◌, ◌^◌, length, subst, arith}
use Rattle.std.specs.List.{All}
use Rattle.bc_stream.specs.Bits.{Fixed, Vbr, Vbrs, ◌then◌}
use Rattle.bc_stream.specs.Writing.{Wrote}
use Rattle.bc_stream.proofs.WroteLemmas.{wrote_then, wrote_fixed}
use Rattle.bc_stream.proofs.WroteAllLemmas.{wrote_record}
use Rattle.bc_stream.proofs.write.put_record.Goals as goal

pub returns : goal.returns
returns c =
    let code = c.args.entry.now.code in
    let values = c.args.entry.now.values in
    let old = c.args.writer.now in
    let one = c.put.new.self in
    let two = c.put_chunks.new.self in
    let three = c.put_chunks-2.new.self in
    let four = c.put_values.new.writer in
    let a = wrote_fixed 3 3 old one (omega arith) c.in_ok-put.ensures in
    let b : Wrote (Vbr 6 code) one two = subst (λ n. Wrote (Vbr 6 n) one two) c.from.ensures c.in_ok-put_chunks.ensures in
    let d : Wrote (Vbr 6 (length values)) two three = subst (λ n. Wrote (Vbr 6 n) two three) c.len.ensures.value c.in_ok-put_chunks-2.ensures in
    let e : Wrote (Vbrs 6 values) three four = subst (λ l. Wrote (Vbrs 6 l) three four) c.as_slice.ensures.value c.in_ok-put_values.ensures.wrote in
    let all : All (λ value. value < 2 ^ 64) values = subst (All (λ value. value < 2 ^ 64)) c.as_slice.ensures.value c.in_ok-put_values.ensures.fit in
    let f = wrote_then (Vbr 6 (length values)) (Vbrs 6 values) two three four d e in
    let g = wrote_then (Vbr 6 code) (Vbr 6 (length values) then Vbrs 6 values) one two four b f in
    let h = wrote_then (Fixed 3 3) (Vbr 6 code then Vbr 6 (length values) then Vbrs 6 values) old one four a g in
    wrote_record code values old four (omega (arith, c.from.ensures)) all h

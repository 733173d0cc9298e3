use Rattle.std.proofs.Common.{◌<◌, ◌^◌, length, take, get_or, subst, sym, arith}
use Rattle.std.proofs.lemmas.List.{take_more}
use Rattle.std.proofs.lemmas.List.Elements.{All-from_get_or}
use Rattle.bc_stream.specs.Bits.{Vbrs}
use Rattle.bc_stream.specs.Writing.{Wrote}
use Rattle.bc_stream.proofs.WroteLemmas.{wrote_vbr_more}
use Rattle.bc_stream.proofs.write.put_values.Goals as goal

pub loop-value-preserved : goal.loop-value-preserved
loop-value-preserved c =
    let at = c.loop-value.value-index in
    let values = c.args.values.now in
    let within : at < length values = omega arith in
    subst (λ l. Wrote (Vbrs 6 l) c.args.writer.now c.put_chunks.new.self) (sym (take_more values at 0 within))
    (wrote_vbr_more 6 (get_or values at 0) (take at values) c.args.writer.now c.loop-value.writer c.put_chunks.new.self c.loop-value.invariant c.in_ok-put_chunks.ensures)

pub returns-clause-fit : goal.returns-clause-fit
returns-clause-fit c =
    All-from_get_or (λ value. value < 2 ^ 64) c.args.values.now 0 (λ i within. omega (arith, c.type_inv.values i))

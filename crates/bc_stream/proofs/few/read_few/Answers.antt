use Rattle.std.proofs.Common.{◌+◌, ◌≡◌, ◌∙◌, arith, refl, subst, take}
use Rattle.std.proofs.lemmas.Grind.{take-set_at}
use Rattle.std.proofs.lemmas.List.{length-set}
use Rattle.std.proofs.Math.ListN.{set}
use Rattle.bc_stream.specs.Reading.{ListAt}
use Rattle.bc_stream.proofs.RecordLemmas.{list_more}
use Rattle.bc_stream.proofs.FewLemmas.{entry_of_few}
use Rattle.bc_stream.proofs.few.read_few.Goals as goal

pub loop-index-preserved : goal.loop-index-preserved
loop-index-preserved c =
    let index = c.loop-index.index in
    let places = c.loop-index.places in
    let value = c.in-Some-value.value in
    let h = c.loop-index.invariant in (
      length-set places index value ∙ h.0,
      list_more c.args.bytes.now index c.in-Some.head.to c.loop-index.to (index + 1) value (take index places) (take (index + 1) (set places index value)) c.in-Some-read_number.number
          h.1 c.in-Some-read_number.ensures c.in-Some-value.is refl (take-set_at places index (index + 1) value refl (omega (arith, h.0, c.in-Some.ensures.few, c.loop-index-test.true))),
    )

pub returns-clause-entry : goal.returns-clause-entry
returns-clause-entry c =
    let bytes = c.args.bytes.now in
    let head = c.in-Some.head in
    let whole : c.loop-index.index ≡ head.count = omega (arith, c.loop-index.auto.index-end, c.loop-index-test.false) in
    entry_of_few bytes c.args.scope c.args.at c.loop-index.to (take head.count c.loop-index.places) head c.in-Some.ensures
    (subst (λ n. ListAt bytes n head.to (take n c.loop-index.places) c.loop-index.to) whole c.loop-index.invariant.1) (omega arith)

use Rattle.std.proofs.Common.{◌+◌, ◌∙◌, ◌∷◌, ap, sym}
use Rattle.bc_stream.specs.Blocks.{parts_contents}
use Rattle.bc_records.specs.Entries.{blocks_in}
use Rattle.bc_records.proofs.ReadSteps.{from, next_part, part_step, stop}
use Rattle.bc_records.proofs.ReadDefined.{slice_from}
use Rattle.bc_records.proofs.read.blocks.next_block.Goals as goal

pub returns-in-Some : goal.returns-in-Some
returns-in-Some c =
    let parts = c.args.parts.now in
    let i = c.loop-place.place in
    let id = c.args.id in
    sym c.loop-place.invariant
    ∙ (ap (blocks_in id) (next_part parts i c.index-parts-place.result c.loop-place-test.true c.index-parts-place.is)
    ∙ (c.in-Some.ensures (from parts (i + 1))
    ∙ ap (λ ps. parts_contents c.in-Some.inner.now ∷ blocks_in id (parts_contents ps)) (sym (slice_from parts (i + 1)))))

pub loop-place-preserved : goal.loop-place-preserved
loop-place-preserved c =
    let parts = c.args.parts.now in
    let id = c.args.id in
    part_step (blocks_in id) (blocks_in id) (blocks_in id (parts_contents parts)) parts c.loop-place.place c.index-parts-place.result
    c.loop-place-test.true c.index-parts-place.is (λ rest. sym (c.in_default.ensures rest)) c.loop-place.invariant

pub returns : goal.returns
returns c =
    sym (stop (blocks_in c.args.id) (blocks_in c.args.id (parts_contents c.args.parts.now)) c.args.parts.now c.loop-place.place c.loop-place-test.false c.loop-place.invariant)

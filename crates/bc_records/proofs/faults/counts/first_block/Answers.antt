use Rattle.std.proofs.Common.{◌∙◌, ◌+◌, ap, sym, ◌∷◌}
use Rattle.std.specs.Prelude.{if◌then◌else◌}
use Rattle.std.proofs.lemmas.Bool.{eq-eqb, ne_eqb}
use Rattle.bc_stream.specs.Blocks.{parts_contents}
use Rattle.bc_records.specs.Entries.{entries_in, blocks_in}
use Rattle.bc_records.specs.RecordKinds.{first_of}
use Rattle.bc_stream.proofs.BlockLemmas.{parts_contents-none}
use Rattle.bc_records.proofs.FaultWalk.{left, left-entry, left-block, left-none}
use Rattle.bc_records.proofs.faults.counts.first_block.Goals as goal
use Rattle.bc_records.proofs.faults.counts.first_block.Goals.{in-Block+else-inner-id, in_default}

pub returns-then-inner-id : goal.returns-then-inner-id
returns-then-inner-id c =
    let parts = c.args.parts.now in
    ap (λ ps. entries_in (parts_contents ps)) c.as_slice.ensures
    ∙ sym (ap first_of (c.loop-part.invariant
    ∙ (ap (blocks_in c.args.id) (left-block parts c.loop-part.part-index c.part-item.result c.in-Block.inner c.loop-part-test.true c.part-item.is c.in-Block.is)
    ∙ ap (λ t. if t then parts_contents c.in-Block.inner.parts ∷ blocks_in c.args.id (left parts (c.loop-part.part-index + 1)) else blocks_in c.args.id (left parts (c.loop-part.part-index + 1)))
    (eq-eqb c.in-Block.inner.id c.args.id c.if-inner-id.true))))

pub loop-part-preserved : goal.loop-part-preserved
loop-part-preserved c =
    let parts = c.args.parts.now in
    elim c.match-part.branch [
      | in-Block+else-inner-id w ↦
          c.loop-part.invariant
          ∙ (ap (blocks_in c.args.id) (left-block parts c.loop-part.part-index c.part-item.result w.in-Block.inner c.loop-part-test.true c.part-item.is w.in-Block.is)
          ∙ ap (λ t. if t then parts_contents w.in-Block.inner.parts ∷ blocks_in c.args.id (left parts (c.loop-part.part-index + 1)) else blocks_in c.args.id (left parts (c.loop-part.part-index + 1)))
          (ne_eqb w.in-Block.inner.id c.args.id w.if-inner-id.false))
      | in_default w ↦
          c.loop-part.invariant
          ∙ ap (blocks_in c.args.id) (left-entry parts c.loop-part.part-index c.part-item.result w.in_default.field-0 c.loop-part-test.true c.part-item.is w.in_default.is)
    ]

pub returns : goal.returns
returns c =
    let parts = c.args.parts.now in
    ap entries_in parts_contents-none
    ∙ sym (ap first_of (c.loop-part.invariant ∙ ap (blocks_in c.args.id) (left-none parts c.loop-part.part-index c.loop-part-test.false)))

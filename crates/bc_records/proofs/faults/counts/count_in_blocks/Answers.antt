use Rattle.std.proofs.Common.{◌∙◌, ◌+◌, ap, sym}
use Rattle.bc_stream.specs.Blocks.{parts_contents}
use Rattle.bc_records.specs.Entries.{entries_in, blocks_in}
use Rattle.bc_records.specs.RecordKinds.{all_of}
use Rattle.bc_records.specs.FaultCounts.{codes_from}
use Rattle.bc_records.proofs.FaultWalk.{past, past-none}
use Rattle.bc_records.proofs.FaultCounts.{codes_from-append, blocks-block, blocks-other, blocks-entry, all_of-one}
use Rattle.bc_records.proofs.faults.counts.count_in_blocks.Goals as goal
use Rattle.bc_records.proofs.faults.counts.count_in_blocks.Goals.{in-Block+then-inner-id+in_ok-count, in-Block+else-inner-id, in_default}

pub loop-part-init : goal.loop-part-init
loop-part-init c = sym (ap (λ p. codes_from c.args.first (all_of (blocks_in c.args.id p))) (past-none c.args.parts.now))

pub loop-part-preserved : goal.loop-part-preserved
loop-part-preserved c =
    let parts = c.args.parts.now in
    let i = c.loop-part.part-index in
    let first = c.args.first in
    let id = c.args.id in
    elim c.match-part.branch [
      | in-Block+then-inner-id+in_ok-count w ↦
          let b = w.in-Block.inner in
          w.count-is ∙ (w.in_ok-count.ensures
          ∙ (ap (λ n. n + w.count_from-more.result) c.loop-part.invariant
          ∙ (ap (λ n. codes_from first (all_of (blocks_in id (past parts i))) + n) (w.count_from-more.ensures.value ∙ ap (λ ps. codes_from first (entries_in (parts_contents ps))) w.as_slice.ensures)
          ∙ (sym (codes_from-append first (all_of (blocks_in id (past parts i))) (entries_in (parts_contents b.parts)))
          ∙ ap (codes_from first) (sym (ap all_of (blocks-block parts i c.part-item.result b c.loop-part-test.true c.part-item.is w.in-Block.is id w.if-inner-id.true)
          ∙ all_of-one (blocks_in id (past parts i)) (parts_contents b.parts)))))))
      | in-Block+else-inner-id w ↦
          w.count-is ∙ (c.loop-part.invariant
          ∙ sym (ap (λ bs. codes_from first (all_of bs)) (blocks-other parts i c.part-item.result w.in-Block.inner c.loop-part-test.true c.part-item.is w.in-Block.is id w.if-inner-id.false)))
      | in_default w ↦
          w.count-is ∙ (c.loop-part.invariant
          ∙ sym (ap (λ bs. codes_from first (all_of bs)) (blocks-entry parts i c.part-item.result w.in_default.field-0 c.loop-part-test.true c.part-item.is w.in_default.is id)))
    ]

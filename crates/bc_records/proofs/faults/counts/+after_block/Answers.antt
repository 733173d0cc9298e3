use Rattle.std.proofs.Common.{ap, arith, refl}
use Rattle.std.proofs.lemmas.List.{take_all}
use Rattle.bc_stream.specs.Blocks.{parts_contents}
use Rattle.bc_records.specs.Entries.{block_count}
use Rattle.bc_records.proofs.FaultWalk.{past, past-none, block-room}
use Rattle.bc_records.proofs.FaultCounts.{count-block, count-entry}
use Rattle.bc_records.proofs.faults.counts.+after_block.Goals as goal
use Rattle.bc_records.proofs.faults.counts.+after_block.Goals.{in-Block, in_default}

pub loop-part-init : goal.loop-part-init
loop-part-init t c room = omega (arith, c.saturating_add-next.ensures, room, ap block_count (past-none c.as_slice-part-items.result.now))

pub loop-part-preserved : goal.loop-part-preserved
loop-part-preserved t c room =
    let items = c.as_slice-part-items.result.now in
    let i = c.loop-part.part-index in
    let now = c.loop-part.invariant room in
    elim c.match-part.branch [
      | in-Block w ↦
          let more = count-block items i c.part-item.result w.in-Block.inner c.loop-part-test.true c.part-item.is w.in-Block.is in
          let least = block-room items i (block_count (past items i)) c.part-item.result w.in-Block.inner c.loop-part-test.true c.part-item.is w.in-Block.is refl in
          omega (
            arith,
            now,
            more,
            w.next-is,
            w.after_block-next.ensures (omega (arith, now, least, room)),
          )
      | in_default w ↦ omega (
        arith,
        w.next-is,
        now,
        count-entry items i c.part-item.result w.in_default.field-0 c.loop-part-test.true c.part-item.is w.in_default.is,
      )
    ]

pub returns : goal.returns
returns t c room =
    let items = c.as_slice-part-items.result.now in
    let same = ap (λ ps. block_count (parts_contents ps)) c.as_slice-part-items.ensures in
    omega (arith, same, c.loop-part.invariant (omega (arith, same, room)), ap (λ ps. block_count (parts_contents ps)) (take_all c.loop-part.part-index items c.loop-part-test.false))

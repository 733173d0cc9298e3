use Rattle.std.proofs.Common.{ℕ, ◌+◌, ◌∙◌, ap, sym, refl}
use Rattle.bc_stream.specs.Blocks.{Contents, parts_contents}
use Rattle.bc_records.specs.Entries.{entries_in}
use Rattle.bc_records.specs.Read.{read_count, word}
use Rattle.bc_records.specs.RecordKinds.{operand}
use Rattle.bc_records.proofs.ReadSteps.{from, record_next, record_step, block_step, stop}
use Rattle.bc_records.proofs.ReadInstructions.{count_here, count_later}
use Rattle.bc_records.proofs.read.bodies.block_count.Goals as goal
use Rattle.bc_records.proofs.read.bodies.block_count.Goals.{in-Entry+else-entry-eq-DECLAREBLOCKS, in-Block}

abbrev count_of : Contents → ℕ
count_of rest = read_count (entries_in rest)

pub returns-then-entry-eq-DECLAREBLOCKS : goal.returns-then-entry-eq-DECLAREBLOCKS
returns-then-entry-eq-DECLAREBLOCKS c =
    let parts = c.as_slice-part-items.result.now in
    let i = c.loop-part.part-index in
    let e = c.in-Entry.entry in
    c.word_at.ensures
    ∙ (ap (λ vs. word (operand vs 0)) c.as_slice.ensures.value
    ∙ (sym (count_here e.code e.values (entries_in (from parts (i + 1))) c.if-entry-eq-DECLAREBLOCKS.true)
    ∙ (ap count_of (sym (record_next parts i c.part-item.result e c.loop-part-test.true c.part-item.is c.in-Entry.is))
    ∙ (c.loop-part.invariant ∙ ap (λ p. count_of (parts_contents p)) c.as_slice-part-items.ensures))))

pub loop-part-preserved : goal.loop-part-preserved
loop-part-preserved c =
    let parts = c.as_slice-part-items.result.now in
    let whole = count_of (parts_contents parts) in
    elim c.match-part.branch [
      | in-Entry+else-entry-eq-DECLAREBLOCKS w ↦
          record_step count_of count_of whole parts c.loop-part.part-index c.part-item.result w.in-Entry.entry
          c.loop-part-test.true c.part-item.is w.in-Entry.is
          (λ rest. sym (count_later w.in-Entry.entry.code w.in-Entry.entry.values (entries_in rest) w.if-entry-eq-DECLAREBLOCKS.false)) c.loop-part.invariant
      | in-Block w ↦
          block_step count_of count_of whole parts c.loop-part.part-index c.part-item.result w.in-Block.field-0
          c.loop-part-test.true c.part-item.is w.in-Block.is (λ rest. refl) c.loop-part.invariant
    ]

pub returns : goal.returns
returns c =
    let parts = c.as_slice-part-items.result.now in
    stop count_of (count_of (parts_contents parts)) parts c.loop-part.part-index c.loop-part-test.false c.loop-part.invariant
    ∙ ap (λ p. count_of (parts_contents p)) c.as_slice-part-items.ensures

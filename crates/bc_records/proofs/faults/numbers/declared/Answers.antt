use Rattle.std.proofs.Common.{◌∙◌, ◌+◌, ap, sym}
use Rattle.std.specs.Prelude.{if◌then◌else◌, slice_get}
use Rattle.std.proofs.lemmas.Bool.{eq-eqb, ne_eqb}
use Rattle.bc_records.specs.Entries.{entries_in}
use Rattle.bc_records.specs.RecordKinds.{first_operand}
use Rattle.bc_records.proofs.FaultWalk.{left, left-entry, left-block, left-none}
use Rattle.bc_records.proofs.faults.numbers.declared.Goals as goal
use Rattle.bc_records.proofs.faults.numbers.declared.Goals.{in-Entry+else-entry-eq-DECLAREBLOCKS, in_default}

pub returns-then-entry-eq-DECLAREBLOCKS : goal.returns-then-entry-eq-DECLAREBLOCKS
returns-then-entry-eq-DECLAREBLOCKS c =
    let parts = c.args.parts.now in
    let i = c.loop-part.part-index in
    let e = c.in-Entry.entry in
    c.copied.ensures ∙ (c.first.ensures.value ∙ (ap (λ ops. slice_get ops 0) c.as_slice.ensures.value
    ∙ sym (c.loop-part.invariant
    ∙ (ap (λ b. first_operand 1 (entries_in b)) (left-entry parts i c.part-item.result e c.loop-part-test.true c.part-item.is c.in-Entry.is)
    ∙ ap (λ t. if t then slice_get e.values 0 else first_operand 1 (entries_in (left parts (i + 1)))) (eq-eqb e.code 1 c.if-entry-eq-DECLAREBLOCKS.true)))))

pub loop-part-preserved : goal.loop-part-preserved
loop-part-preserved c =
    let parts = c.args.parts.now in
    let i = c.loop-part.part-index in
    elim c.match-part.branch [
      | in-Entry+else-entry-eq-DECLAREBLOCKS w ↦
          let e = w.in-Entry.entry in
          c.loop-part.invariant
          ∙ (ap (λ b. first_operand 1 (entries_in b)) (left-entry parts i c.part-item.result e c.loop-part-test.true c.part-item.is w.in-Entry.is)
          ∙ ap (λ t. if t then slice_get e.values 0 else first_operand 1 (entries_in (left parts (i + 1)))) (ne_eqb e.code 1 w.if-entry-eq-DECLAREBLOCKS.false))
      | in_default w ↦
          c.loop-part.invariant
          ∙ ap (λ b. first_operand 1 (entries_in b)) (left-block parts i c.part-item.result w.in_default.field-0 c.loop-part-test.true c.part-item.is w.in_default.is)
    ]

pub returns : goal.returns
returns c =
    sym (c.loop-part.invariant ∙ ap (λ b. first_operand 1 (entries_in b)) (left-none c.args.parts.now c.loop-part.part-index c.loop-part-test.false))

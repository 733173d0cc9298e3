use Rattle.std.proofs.Common.{◌∙◌, ◌++◌, ◌∷◌, [], ap, sym, map, eq-eqb}
use Rattle.std.proofs.lemmas.Bool.{ne_eqb}
use Rattle.bc_records.specs.Entries.{entry, entries_in}
use Rattle.bc_records.specs.HeldEntries.{operands_form}
use Rattle.bc_records.specs.RecordKinds.{function_entries}
use Rattle.bc_records.proofs.FaultWalk.{past, past-none, past-entries}
use Rattle.bc_records.proofs.FaultCounts.{entries-block}
use Rattle.bc_records.proofs.FaultSurvey.{functions-one, functions-same, map-one}
use Rattle.bc_records.proofs.faults.survey.function_list.Goals as goal
use Rattle.bc_records.proofs.faults.survey.function_list.Goals.{in-Entry+then-entry-eq-FUNCTION+in_ok-push, in-Entry+else-entry-eq-FUNCTION, in_default}

pub loop-part-init : goal.loop-part-init
loop-part-init c = ap (map operands_form) c.new-functions.ensures.items ∙ sym (ap (λ b. function_entries (entries_in b)) (past-none c.args.parts.now))

pub loop-part-preserved : goal.loop-part-preserved
loop-part-preserved c =
    let parts = c.args.parts.now in
    let i = c.loop-part.part-index in
    let before = entries_in (past parts i) in
    elim c.match-part.branch [
      | in-Entry+then-entry-eq-FUNCTION+in_ok-push w ↦
          let e = w.in-Entry.entry in
          rw w.functions-is
          (ap (map operands_form) w.in_ok-push.ensures.items
          ∙ (map-one operands_form c.loop-part.functions.items _
          ∙ (ap (λ ops. map operands_form c.loop-part.functions.items ++ ops ∷ []) w.as_slice.ensures.value
          ∙ (ap (λ es. es ++ e.values ∷ []) c.loop-part.invariant
          ∙ sym (ap function_entries (past-entries parts i c.part-item.result e c.loop-part-test.true c.part-item.is w.in-Entry.is)
          ∙ functions-one before (entry e.code e.values) (eq-eqb e.code 8 w.if-entry-eq-FUNCTION.true))))))
      | in-Entry+else-entry-eq-FUNCTION w ↦
          let e = w.in-Entry.entry in
          rw w.functions-is
          (c.loop-part.invariant
          ∙ sym (ap function_entries (past-entries parts i c.part-item.result e c.loop-part-test.true c.part-item.is w.in-Entry.is)
          ∙ functions-same before (entry e.code e.values) (ne_eqb e.code 8 w.if-entry-eq-FUNCTION.false)))
      | in_default w ↦
          rw w.functions-is
          (c.loop-part.invariant
          ∙ sym (ap function_entries (entries-block parts i c.part-item.result w.in_default.field-0 c.loop-part-test.true c.part-item.is w.in_default.is)))
    ]

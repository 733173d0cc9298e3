use Rattle.std.proofs.Common.{◌∙◌, ◌++◌, ◌∷◌, [], ap, sym, map}
use Rattle.bc_records.specs.Entries.{entry, entries_in}
use Rattle.bc_records.specs.HeldEntries.{entry_form}
use Rattle.bc_records.specs.RecordKinds.{type_entries}
use Rattle.bc_records.proofs.FaultWalk.{past, past-none, past-entries}
use Rattle.bc_records.proofs.FaultCounts.{entries-block}
use Rattle.bc_records.proofs.FaultSurvey.{types-one, types-same, map-one}
use Rattle.bc_records.proofs.faults.survey.type_list.Goals as goal
use Rattle.bc_records.proofs.faults.survey.type_list.Goals.{in-Entry+then-is_entry+in_ok-push, in-Entry+else-is_entry, in_default}

pub loop-part-init : goal.loop-part-init
loop-part-init c = ap (map entry_form) c.new-types.ensures.items ∙ sym (ap (λ b. type_entries (entries_in b)) (past-none c.args.parts.now))

pub loop-part-preserved : goal.loop-part-preserved
loop-part-preserved c =
    let parts = c.args.parts.now in
    let i = c.loop-part.part-index in
    let before = entries_in (past parts i) in
    elim c.match-part.branch [
      | in-Entry+then-is_entry+in_ok-push w ↦
          let e = w.in-Entry.entry in
          rw w.types-is
          (ap (map entry_form) w.in_ok-push.ensures.items
          ∙ (map-one entry_form c.loop-part.types.items _
          ∙ (ap (λ es. es ++ entry e.code e.values ∷ []) c.loop-part.invariant
          ∙ sym (ap type_entries (past-entries parts i c.part-item.result e c.loop-part-test.true c.part-item.is w.in-Entry.is)
          ∙ types-one before (entry e.code e.values) (sym w.if-is_entry.ensures)))))
      | in-Entry+else-is_entry w ↦
          let e = w.in-Entry.entry in
          rw w.types-is
          (c.loop-part.invariant
          ∙ sym (ap type_entries (past-entries parts i c.part-item.result e c.loop-part-test.true c.part-item.is w.in-Entry.is)
          ∙ types-same before (entry e.code e.values) (sym w.if-is_entry.ensures)))
      | in_default w ↦
          rw w.types-is
          (c.loop-part.invariant
          ∙ sym (ap type_entries (entries-block parts i c.part-item.result w.in_default.field-0 c.loop-part-test.true c.part-item.is w.in_default.is)))
    ]

use Rattle.std.proofs.Common.{◌≡◌, map, take, length}
use Rattle.bc_records.specs.HeldEntries.{entry_form, MarksAmong}
use Rattle.bc_records.proofs.faults.survey.pointer_marks.Given as goal

abbrev pub invariant-loop-entry : goal.invariant-loop-entry
invariant-loop-entry l = record {
  marked : MarksAmong (map entry_form (take l.entry-index l.types)) l.pointed.items;
  whole : length l.pointed.items ≡ length l.types;
}

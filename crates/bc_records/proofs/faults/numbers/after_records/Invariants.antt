use Rattle.std.proofs.Common.{◌≡◌, ◌≤◌, ◌+◌}
use Rattle.bc_records.specs.Entries.{entries_in}
use Rattle.bc_records.specs.KnownTables.{known_by}
use Rattle.bc_records.specs.RecordKinds.{next_after}
use Rattle.bc_records.proofs.FaultWalk.{past}
use Rattle.bc_records.proofs.faults.numbers.after_records.Given as goal

abbrev pub invariant-loop-part : goal.invariant-loop-part
invariant-loop-part l = record {
  so_far : l.next ≡ next_after (known_by l.tables) l.first (entries_in (past l.parts l.part-index));
  limit : l.next ≤ l.first + l.part-index;
}

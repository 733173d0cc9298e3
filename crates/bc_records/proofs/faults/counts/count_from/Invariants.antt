use Rattle.std.proofs.Common.{◌≡◌, ◌≤◌}
use Rattle.bc_records.specs.Entries.{entries_in}
use Rattle.bc_records.specs.FaultCounts.{codes_from}
use Rattle.bc_records.proofs.FaultWalk.{past}
use Rattle.bc_records.proofs.faults.counts.count_from.Given as goal

abbrev pub invariant-loop-part : goal.invariant-loop-part
invariant-loop-part l = record {
  counted : l.count ≡ codes_from l.first (entries_in (past l.parts l.part-index));
  limit : l.count ≤ l.part-index;
}

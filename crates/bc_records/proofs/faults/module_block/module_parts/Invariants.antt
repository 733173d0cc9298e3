use Rattle.std.proofs.Common.{◌≡◌, suc, ◌+◌, ◌≤◌}
use Rattle.bc_records.specs.Entries.{block_count}
use Rattle.bc_records.specs.KnownTables.{known_by}
use Rattle.bc_records.specs.ModuleProgress.{HasCome, MarksBefore}
use Rattle.bc_records.specs.RecordFaults.{module_table}
use Rattle.bc_records.proofs.FaultWalk.{past, Walked}
use Rattle.bc_records.proofs.faults.module_block.module_parts.Given as goal

abbrev pub invariant-loop-part : goal.invariant-loop-part
invariant-loop-part l = record {
  walked : Walked (module_table (known_by l.tables)) l.number (suc l.number) l.parts l.part-index l.at (block_count (past l.parts l.part-index));
  come : HasCome (past l.parts l.part-index) l.progress;
  marked : MarksBefore (past l.parts l.part-index) l.marks;
  numbered : l.next ≡ suc l.number + block_count (past l.parts l.part-index);
  at_limit : l.at ≤ l.part-index;
  bodies_limit : l.progress.bodies ≤ l.part-index;
}

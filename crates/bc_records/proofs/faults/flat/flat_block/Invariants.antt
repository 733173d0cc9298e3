use Rattle.std.proofs.Common.{◌≡◌, suc}
use Rattle.bc_records.specs.Entries.{entries_in}
use Rattle.bc_records.specs.KnownTables.{known_by}
use Rattle.bc_records.specs.FlatTables.{flat_table_of}
use Rattle.bc_records.specs.RecordKinds.{has_code, last_has_code}
use Rattle.bc_records.proofs.FaultWalk.{past, Walked}
use Rattle.bc_records.proofs.faults.flat.flat_block.Given as goal

abbrev pub invariant-loop-at : goal.invariant-loop-at
invariant-loop-at l = record {
  walked : Walked (flat_table_of (known_by l.tables) l.flat) l.number (suc l.number) l.parts l.at l.at 0;
  first : has_code 1 (entries_in (past l.parts l.at)) ≡ l.come.first;
  name : last_has_code 4 (entries_in (past l.parts l.at)) ≡ l.come.name;
}

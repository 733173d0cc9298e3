use Rattle.std.proofs.Common.{◌≡◌, ◌++◌, List, length, suc}
use Rattle.bc_records.specs.Entries.{Entry, entries_in}
use Rattle.bc_records.specs.FaultSearch.{MarksNamed}
use Rattle.bc_records.specs.RecordFaults.{symbols_table}
use Rattle.bc_records.specs.RecordKinds.{Known}
use Rattle.bc_records.proofs.FaultWalk.{past, Walked}
use Rattle.bc_records.proofs.faults.symbols.symbols_block.Given as goal

abbrev pub invariant-loop-at : goal.invariant-loop-at
invariant-loop-at l = record {
  walked : (known : Known) (earlier : List Entry) → length known.functions ≡ length l.initial.marks → MarksNamed l.initial.marks earlier →
      Walked (symbols_table known earlier) l.number (suc l.number) l.parts l.at l.at 0;
  marked : (earlier : List Entry) → MarksNamed l.initial.marks earlier → MarksNamed l.marks (earlier ++ entries_in (past l.parts l.at));
}

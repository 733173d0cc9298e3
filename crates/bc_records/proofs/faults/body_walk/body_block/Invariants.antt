use Rattle.std.proofs.Common.{◌≡◌, suc, ◌+◌, ◌≤◌}
use Rattle.bc_records.specs.BodyNumbers.{numbers_form}
use Rattle.bc_records.specs.BodyPlaces.{IsBehind}
use Rattle.bc_records.specs.Entries.{entries_in, block_count}
use Rattle.bc_records.specs.KnownTables.{known_by}
use Rattle.bc_records.specs.RecordFaults.{body_table}
use Rattle.bc_records.proofs.FaultWalk.{past, Walked}
use Rattle.bc_records.proofs.faults.body_walk.body_block.Given as goal

abbrev pub invariant-loop-part : goal.invariant-loop-part
invariant-loop-part l = record {
  walked : Walked (body_table (known_by l.tables) (numbers_form l.numbers)) l.number (suc l.number) l.parts l.part-index l.at (block_count (past l.parts l.part-index));
  behind : IsBehind (known_by l.tables) (numbers_form l.numbers) (entries_in (past l.parts l.part-index)) l.place;
  numbered : l.next ≡ suc l.number + block_count (past l.parts l.part-index);
  at_limit : l.at ≤ l.part-index;
  next_limit : l.place.next ≤ l.numbers.first + l.part-index;
  returns_limit : l.place.returns ≤ l.part-index;
}

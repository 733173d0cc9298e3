use Rattle.std.proofs.Common.{◌≡◌, map, take}
use Rattle.std.specs.Prelude.{All}
use Rattle.bc_records.specs.Ranges.{PartInRange}
use Rattle.bc_records.specs.Written.{written_part}
use Rattle.bc_records.proofs.metadata.part_numbers.Given as goal

abbrev pub invariant-loop-part : goal.invariant-loop-part
invariant-loop-part l = record {
  so_far : l.values.items ≡ map written_part (take l.part-index l.all);
  range : All PartInRange (take l.part-index l.all);
}

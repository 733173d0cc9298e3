use Rattle.std.proofs.Common.{◌≡◌, map, take, drop}
use Rattle.std.specs.Prelude.{All, flat_map}
use Rattle.bc_stream.specs.Blocks.{append, parts_contents}
use Rattle.bc_records.specs.Ranges.{TypeInRange}
use Rattle.bc_records.specs.TypeRecords.{type_entry}
use Rattle.bc_records.specs.Written.{type_records, types_contents}
use Rattle.bc_records.proofs.Steps.{alone}
use Rattle.bc_records.proofs.types.types_parts.Given as goal

abbrev pub invariant-loop-ty : goal.invariant-loop-ty
invariant-loop-ty l = record {
  so_far : append (parts_contents l.parts) (alone (flat_map (λ ty. map type_entry (type_records ty)) (drop l.ty-index l.entries))) ≡ types_contents l.entries;
  range : All TypeInRange (take l.ty-index l.entries);
}

use Rattle.std.proofs.Common.{◌≡◌, take, drop}
use Rattle.std.specs.Prelude.{All, flat_map}
use Rattle.bc_stream.specs.Blocks.{append, parts_contents}
use Rattle.bc_records.specs.MetadataRecords.{metadata_entries}
use Rattle.bc_records.specs.Ranges.{NamedInRange}
use Rattle.bc_records.specs.Written.{named_record, metadata_contents}
use Rattle.bc_records.proofs.Steps.{alone}
use Rattle.bc_records.proofs.metadata.metadata_parts.Given as goal

abbrev pub invariant-loop-one : goal.invariant-loop-one
invariant-loop-one l = record {
  so_far : append (parts_contents l.parts) (alone (flat_map (λ n. metadata_entries (named_record n)) (drop l.one-index l.all)))
      ≡ metadata_contents l.metas l.all;
  range : All NamedInRange (take l.one-index l.all);
}

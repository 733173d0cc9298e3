use Rattle.std.proofs.Common.{◌≡◌, take, drop}
use Rattle.std.specs.Prelude.{All, flat_map}
use Rattle.bc_stream.specs.Blocks.{append, parts_contents}
use Rattle.bc_records.specs.MetadataRecords.{metadata_entries}
use Rattle.bc_records.specs.Ranges.{MetaInRange}
use Rattle.bc_records.specs.Written.{meta_record}
use Rattle.bc_records.proofs.Steps.{alone}
use Rattle.bc_records.proofs.metadata.metas_parts.Given as goal

abbrev pub invariant-loop-meta : goal.invariant-loop-meta
invariant-loop-meta l = record {
  so_far : append (parts_contents l.parts) (alone (flat_map (λ m. metadata_entries (meta_record m)) (drop l.meta-index l.all)))
      ≡ alone (flat_map (λ m. metadata_entries (meta_record m)) l.all);
  range : All MetaInRange (take l.meta-index l.all);
}

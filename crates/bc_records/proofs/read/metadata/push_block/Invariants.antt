use Rattle.std.proofs.Common.{◌≡◌, ◌++◌, []}
use Rattle.bc_stream.specs.Blocks.{parts_contents}
use Rattle.bc_records.specs.MetadataRecords.{metas_of, named_of}
use Rattle.bc_records.specs.Entries.{entries_in}
use Rattle.bc_records.specs.Read.{read_metadata}
use Rattle.bc_records.proofs.ReadSteps.{from}
use Rattle.bc_records.proofs.read.metadata.push_block.Given as goal

abbrev pub invariant-loop-part : goal.invariant-loop-part
invariant-loop-part l = record {
  metas : l.metadata.metas ++ metas_of (read_metadata l.name (entries_in (from l.part-items l.part-index)))
      ≡ l.initial.metadata.metas ++ metas_of (read_metadata [] (entries_in (parts_contents l.part-items)));
  named : l.metadata.named ++ named_of (read_metadata l.name (entries_in (from l.part-items l.part-index)))
      ≡ l.initial.metadata.named ++ named_of (read_metadata [] (entries_in (parts_contents l.part-items)));
}

use Rattle.std.proofs.Common.{◌≡◌, ◌++◌}
use Rattle.bc_stream.specs.Blocks.{parts_contents}
use Rattle.bc_records.specs.Read.{read_metas, read_named}
use Rattle.bc_records.proofs.ReadSteps.{from}
use Rattle.bc_records.proofs.read.metadata.metadata_in.Given as goal

abbrev pub invariant-loop-part : goal.invariant-loop-part
invariant-loop-part l = record {
  metas : l.metadata.metas ++ read_metas (from l.part-items l.part-index) ≡ read_metas (parts_contents l.part-items);
  named : l.metadata.named ++ read_named (from l.part-items l.part-index) ≡ read_named (parts_contents l.part-items);
}

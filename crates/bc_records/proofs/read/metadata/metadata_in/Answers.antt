use Rattle.std.proofs.Common.{List, [], ◌++◌, ◌∙◌, ap, sym, append-nil}
use Rattle.ir_core.specs.declared.module.Meta.{Meta}
use Rattle.ir_core.specs.declared.module.Named.{Named}
use Rattle.bc_stream.specs.Blocks.{Contents, parts_contents}
use Rattle.bc_records.specs.Codes.{metadata_block}
use Rattle.bc_records.specs.MetadataRecords.{metas_of, named_of}
use Rattle.bc_records.specs.Entries.{entries_in}
use Rattle.bc_records.specs.Read.{read_metadata, read_metas, read_named}
use Rattle.bc_records.proofs.ReadSteps.{skipped, taken, stop}
use Rattle.bc_records.proofs.read.metadata.metadata_in.Goals as goal
use Rattle.bc_records.proofs.read.metadata.metadata_in.Goals.{in-Some+in_ok-push_block, in_default}

abbrev metas_in : Contents → List Meta
metas_in block = metas_of (read_metadata [] (entries_in block))

abbrev named_in : Contents → List Named
named_in block = named_of (read_metadata [] (entries_in block))

pub loop-part-preserved : goal.loop-part-preserved
loop-part-preserved c =
    let parts = c.as_slice-part-items.result.now in
    elim c.match-parts_of.branch [
      | in-Some+in_ok-push_block w ↦
          rw w.metadata-is
          record {
            metas = taken metas_in metadata_block c.loop-part.metadata.metas w.push_block.new.metadata.metas (read_metas (parts_contents parts)) parts c.loop-part.part-index c.part-item.result
                (parts_contents w.in-Some.parts.now) c.loop-part-test.true c.part-item.is w.in-Some.ensures w.in_ok-push_block.ensures.metas c.loop-part.invariant.metas;
            named = taken named_in metadata_block c.loop-part.metadata.named w.push_block.new.metadata.named (read_named (parts_contents parts)) parts c.loop-part.part-index c.part-item.result
                (parts_contents w.in-Some.parts.now) c.loop-part-test.true c.part-item.is w.in-Some.ensures w.in_ok-push_block.ensures.named c.loop-part.invariant.named;
          }
      | in_default w ↦
          rw w.metadata-is
          record {
            metas = skipped metas_in metadata_block c.loop-part.metadata.metas (read_metas (parts_contents parts)) parts c.loop-part.part-index c.part-item.result
                c.loop-part-test.true c.part-item.is w.in_default.ensures c.loop-part.invariant.metas;
            named = skipped named_in metadata_block c.loop-part.metadata.named (read_named (parts_contents parts)) parts c.loop-part.part-index c.part-item.result
                c.loop-part-test.true c.part-item.is w.in_default.ensures c.loop-part.invariant.named;
          }
    ]

pub returns-clause-metas : goal.returns-clause-metas
returns-clause-metas c =
    let parts = c.as_slice-part-items.result.now in
    sym (append-nil c.loop-part.metadata.metas)
    ∙ (stop (λ rest. c.loop-part.metadata.metas ++ read_metas rest) (read_metas (parts_contents parts)) parts
    c.loop-part.part-index c.loop-part-test.false c.loop-part.invariant.metas
    ∙ ap (λ p. read_metas (parts_contents p)) c.as_slice-part-items.ensures)

pub returns-clause-named : goal.returns-clause-named
returns-clause-named c =
    let parts = c.as_slice-part-items.result.now in
    sym (append-nil c.loop-part.metadata.named)
    ∙ (stop (λ rest. c.loop-part.metadata.named ++ read_named rest) (read_named (parts_contents parts)) parts
    c.loop-part.part-index c.loop-part-test.false c.loop-part.invariant.named
    ∙ ap (λ p. read_named (parts_contents p)) c.as_slice-part-items.ensures)

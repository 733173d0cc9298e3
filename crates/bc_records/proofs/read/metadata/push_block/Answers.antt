use Rattle.std.proofs.Common.{List, ℕ, [], ◌++◌, ◌∙◌, ap, sym, refl, append-nil}
use Rattle.ir_core.specs.declared.module.Meta.{Meta}
use Rattle.ir_core.specs.declared.module.Named.{Named}
use Rattle.bc_stream.specs.Blocks.{Contents, parts_contents}
use Rattle.bc_records.specs.MetadataRecords.{metas_of, named_of}
use Rattle.bc_records.specs.Entries.{entries_in}
use Rattle.bc_records.specs.Read.{read_metadata}
use Rattle.bc_records.proofs.ReadSteps.{record_step, block_step, stop}
use Rattle.bc_records.proofs.read.metadata.push_block.Goals as goal
use Rattle.bc_records.proofs.read.metadata.push_block.Goals.{in-Entry+in_ok-push_metadata-in-Entry, in-Block}

-- the metadata so far, and those of what is left, where a name stands before them
abbrev metas_left : List Meta → List ℕ → Contents → List Meta
metas_left metas name rest = metas ++ metas_of (read_metadata name (entries_in rest))

abbrev named_left : List Named → List ℕ → Contents → List Named
named_left named name rest = named ++ named_of (read_metadata name (entries_in rest))

pub loop-part-preserved : goal.loop-part-preserved
loop-part-preserved c =
    let parts = c.as_slice-part-items.result.now in
    let all_metas = metas_left c.args.metadata.now.metas [] (parts_contents parts) in
    let all_named = named_left c.args.metadata.now.named [] (parts_contents parts) in
    let old_metas = metas_left c.loop-part.metadata.metas c.loop-part.name in
    let old_named = named_left c.loop-part.metadata.named c.loop-part.name in
    elim c.match-part.branch [
      | in-Entry+in_ok-push_metadata-in-Entry w ↦
          rw (w.metadata-is, w.name-is)
          record {
            metas = record_step old_metas (metas_left w.push_metadata.new.metadata.metas w.push_metadata.new.name) all_metas parts c.loop-part.part-index c.part-item.result w.in-Entry.entry
                c.loop-part-test.true c.part-item.is w.in-Entry.is (λ rest. w.in_ok-push_metadata-in-Entry.ensures.metas (entries_in rest)) c.loop-part.invariant.metas;
            named = record_step old_named (named_left w.push_metadata.new.metadata.named w.push_metadata.new.name) all_named parts c.loop-part.part-index c.part-item.result w.in-Entry.entry
                c.loop-part-test.true c.part-item.is w.in-Entry.is (λ rest. w.in_ok-push_metadata-in-Entry.ensures.named (entries_in rest)) c.loop-part.invariant.named;
          }
      | in-Block w ↦
          rw (w.metadata-is, w.name-is)
          record {
            metas = block_step old_metas old_metas all_metas parts c.loop-part.part-index c.part-item.result w.in-Block.field-0
                c.loop-part-test.true c.part-item.is w.in-Block.is (λ rest. refl) c.loop-part.invariant.metas;
            named = block_step old_named old_named all_named parts c.loop-part.part-index c.part-item.result w.in-Block.field-0
                c.loop-part-test.true c.part-item.is w.in-Block.is (λ rest. refl) c.loop-part.invariant.named;
          }
    ]

pub returns-clause-metas : goal.returns-clause-metas
returns-clause-metas c =
    let parts = c.as_slice-part-items.result.now in
    sym (append-nil c.loop-part.metadata.metas)
    ∙ (stop (metas_left c.loop-part.metadata.metas c.loop-part.name) (metas_left c.args.metadata.now.metas [] (parts_contents parts)) parts
    c.loop-part.part-index c.loop-part-test.false c.loop-part.invariant.metas
    ∙ ap (λ p. metas_left c.args.metadata.now.metas [] (parts_contents p)) c.as_slice-part-items.ensures)

pub returns-clause-named : goal.returns-clause-named
returns-clause-named c =
    let parts = c.as_slice-part-items.result.now in
    sym (append-nil c.loop-part.metadata.named)
    ∙ (stop (named_left c.loop-part.metadata.named c.loop-part.name) (named_left c.args.metadata.now.named [] (parts_contents parts)) parts
    c.loop-part.part-index c.loop-part-test.false c.loop-part.invariant.named
    ∙ ap (λ p. named_left c.args.metadata.now.named [] (parts_contents p)) c.as_slice-part-items.ensures)

use Rattle.std.proofs.Common.{◌∙◌, ap}
use Rattle.std.specs.Prelude.{flat_map, List}
use Rattle.ir_core.specs.declared.module.Meta.{Meta}
use Rattle.bc_stream.specs.Blocks.{parts_contents}
use Rattle.bc_records.specs.Entries.{Entry}
use Rattle.bc_records.specs.MetadataRecords.{metadata_entries}
use Rattle.bc_records.specs.Ranges.{MetaInRange}
use Rattle.bc_records.specs.Written.{meta_record}
use Rattle.bc_records.proofs.Steps.{alone, step, stop, range_step, range_stop}
use Rattle.bc_records.proofs.metadata.metas_parts.Goals as goal

abbrev own : Meta → List Entry
own meta = metadata_entries (meta_record meta)

pub loop-meta-preserved : goal.loop-meta-preserved
loop-meta-preserved c = record {
  so_far = step own c.as_slice-all.result.now c.loop-meta.meta-index c.meta-item.result
      (parts_contents c.loop-meta.parts) (parts_contents c.push_meta.new.parts) (alone (flat_map own c.as_slice-all.result.now))
      c.loop-meta-test.true c.meta-item.is c.in_ok-push_meta.ensures.ok c.loop-meta.invariant.so_far;
  range = range_step MetaInRange c.as_slice-all.result.now c.loop-meta.meta-index c.meta-item.result
      c.loop-meta-test.true c.meta-item.is c.in_ok-push_meta.ensures.range c.loop-meta.invariant.range;
}

pub returns-clause-value : goal.returns-clause-value
returns-clause-value c =
    stop own c.as_slice-all.result.now c.loop-meta.meta-index (parts_contents c.loop-meta.parts) (alone (flat_map own c.as_slice-all.result.now))
    c.loop-meta-test.false c.loop-meta.invariant.so_far
    ∙ ap (λ metas. alone (flat_map own metas)) c.as_slice-all.ensures.value

pub returns-clause-range : goal.returns-clause-range
returns-clause-range c =
    range_stop MetaInRange c.as_slice-all.result.now c.args.metas.now c.loop-meta.meta-index c.loop-meta-test.false
    c.as_slice-all.ensures.value c.loop-meta.invariant.range

use Rattle.std.proofs.Common.{◌∙◌, ap}
use Rattle.std.specs.Prelude.{List}
use Rattle.std.proofs.lemmas.List.Elements.{All-nil}
use Rattle.ir_core.specs.declared.module.Named.{Named}
use Rattle.bc_stream.specs.Blocks.{parts_contents}
use Rattle.bc_records.specs.Entries.{Entry}
use Rattle.bc_records.specs.MetadataRecords.{metadata_entries}
use Rattle.bc_records.specs.Ranges.{NamedInRange}
use Rattle.bc_records.specs.Written.{named_record, metadata_contents}
use Rattle.bc_records.proofs.Steps.{step, stop, range_step, range_stop}
use Rattle.bc_records.proofs.MetadataSteps.{then_named}
use Rattle.bc_records.proofs.metadata.metadata_parts.Goals as goal

abbrev own : Named → List Entry
own named = metadata_entries (named_record named)

pub loop-one-init : goal.loop-one-init
loop-one-init c = record {
  so_far = then_named (parts_contents c.in_ok-parts.parts) c.args.metas.now c.as_slice-all.result.now c.in_ok-parts.ensures.value;
  range = All-nil NamedInRange;
}

pub loop-one-preserved : goal.loop-one-preserved
loop-one-preserved c = record {
  so_far = step own c.as_slice-all.result.now c.loop-one.one-index c.one-item.result
      (parts_contents c.loop-one.parts) (parts_contents c.push_named.new.parts) (metadata_contents c.args.metas.now c.as_slice-all.result.now)
      c.loop-one-test.true c.one-item.is c.in_ok-push_named.ensures.ok c.loop-one.invariant.so_far;
  range = range_step NamedInRange c.as_slice-all.result.now c.loop-one.one-index c.one-item.result
      c.loop-one-test.true c.one-item.is c.in_ok-push_named.ensures.range c.loop-one.invariant.range;
}

pub returns-clause-value : goal.returns-clause-value
returns-clause-value c =
    stop own c.as_slice-all.result.now c.loop-one.one-index (parts_contents c.loop-one.parts) (metadata_contents c.args.metas.now c.as_slice-all.result.now)
    c.loop-one-test.false c.loop-one.invariant.so_far
    ∙ ap (metadata_contents c.args.metas.now) c.as_slice-all.ensures.value

pub returns-clause-named : goal.returns-clause-named
returns-clause-named c =
    range_stop NamedInRange c.as_slice-all.result.now c.args.named.now c.loop-one.one-index c.loop-one-test.false
    c.as_slice-all.ensures.value c.loop-one.invariant.range

use Rattle.std.proofs.Common.{◌∙◌, ap, sym, map, length, [], ◌∷◌}
use Rattle.std.proofs.lemmas.List.Elements.{All-nil}
use Rattle.bc_stream.specs.Blocks.{parts_contents}
use Rattle.bc_records.specs.Ranges.{TypeInRange}
use Rattle.bc_records.specs.TypeRecords.{type_entry}
use Rattle.bc_records.specs.Written.{type_records, types_contents}
use Rattle.bc_records.proofs.Steps.{alone, map-flat_map, begin_with, step, stop, range_step, range_stop}
use Rattle.bc_records.proofs.types.types_parts.Goals as goal

pub loop-ty-init : goal.loop-ty-init
loop-ty-init c = record {
  so_far = begin_with (parts_contents c.no_parts-parts.result) (parts_contents c.push_numbers.new.parts) 1 (length c.as_slice-entries.result.now ∷ []) _ _
      c.no_parts-parts.ensures c.in_ok-push_numbers.ensures (ap alone (sym (map-flat_map type_entry type_records c.as_slice-entries.result.now)));
  range = All-nil TypeInRange;
}

pub loop-ty-preserved : goal.loop-ty-preserved
loop-ty-preserved c = record {
  so_far = step (λ ty. map type_entry (type_records ty)) c.as_slice-entries.result.now c.loop-ty.ty-index c.ty-item.result
      (parts_contents c.loop-ty.parts) (parts_contents c.push_type.new.parts) (types_contents c.as_slice-entries.result.now)
      c.loop-ty-test.true c.ty-item.is c.in_ok-push_type.ensures.ok c.loop-ty.invariant.so_far;
  range = range_step TypeInRange c.as_slice-entries.result.now c.loop-ty.ty-index c.ty-item.result
      c.loop-ty-test.true c.ty-item.is c.in_ok-push_type.ensures.range c.loop-ty.invariant.range;
}

pub returns-clause-value : goal.returns-clause-value
returns-clause-value c =
    stop (λ ty. map type_entry (type_records ty)) c.as_slice-entries.result.now c.loop-ty.ty-index
    (parts_contents c.loop-ty.parts) (types_contents c.as_slice-entries.result.now) c.loop-ty-test.false c.loop-ty.invariant.so_far
    ∙ ap types_contents c.as_slice-entries.ensures.value

pub returns-clause-range : goal.returns-clause-range
returns-clause-range c =
    range_stop TypeInRange c.as_slice-entries.result.now c.args.types.now c.loop-ty.ty-index c.loop-ty-test.false
    c.as_slice-entries.ensures.value c.loop-ty.invariant.range

use Rattle.std.proofs.Common.{◌++◌, ◌∷◌, [], ◌∙◌, ap, sym, map, take, None}
use Rattle.std.proofs.lemmas.List.{map_more}
use Rattle.std.proofs.lemmas.List.Elements.{All-more}
use Rattle.bc_records.specs.Ranges.{PartInRange}
use Rattle.bc_records.specs.Written.{written_part}
use Rattle.bc_records.proofs.metadata.part_numbers.Goals as goal

pub loop-part-preserved : goal.loop-part-preserved
loop-part-preserved c = record {
  so_far = c.in_ok-push.ensures.items
      ∙ (ap (λ values. values ++ c.part_number.result ∷ []) c.loop-part.invariant.so_far
      ∙ (ap (λ number. map written_part (take c.loop-part.part-index c.as_slice-all.result.now) ++ number ∷ []) c.part_number.ensures.value
      ∙ sym (map_more written_part c.as_slice-all.result.now c.loop-part.part-index None c.loop-part-test.true)));
  range = All-more PartInRange c.as_slice-all.result.now c.loop-part.part-index None c.loop-part-test.true c.loop-part.invariant.range c.part_number.ensures.range;
}

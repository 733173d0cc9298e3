use Rattle.std.proofs.Common.{ap, arith}
use Rattle.hl_meaning.specs.Views.{plain_parts, plain_structs}
use Rattle.hl_source.specs.Offsets.{reached}
use Rattle.hl_interpreter.specs.HeldPlaces.{plain_reached}
use Rattle.hl_interpreter.proofs.HeldPaths.{steps-end, steps-turn}
use Rattle.hl_interpreter.proofs.places.follow_steps.Goals as goal

pub loop-part-init : goal.loop-part-init
loop-part-init c = record {
  there = ap (λ r. reached (plain_structs c.args.program.now.structs) r (plain_parts c.args.parts.now) c.args.indexes.now) c.start_of-from.ensures;
  few = omega arith;
}

pub loop-part-preserved : goal.loop-part-preserved
loop-part-preserved c = record {
  there = steps-turn (plain_structs c.args.program.now.structs) c.args.parts.now c.args.indexes.now _ (plain_reached c.loop-part.from) (plain_reached c.in_ok-from.from) c.loop-part.part-index c.loop-part.next
      c.part-item.result c.word_at.result c.index_count-next.result c.loop-part-test.true c.part-item.is c.word_at.ensures c.index_count-next.ensures.value c.in_ok-from.ensures c.loop-part.invariant.there;
  few = omega arith;
}

pub returns : goal.returns
returns c =
    steps-end (plain_structs c.args.program.now.structs) c.args.parts.now c.args.indexes.now _ (plain_reached c.loop-part.from) c.loop-part.part-index c.loop-part.next c.loop-part-test.false c.loop-part.invariant.there

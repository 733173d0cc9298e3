use Rattle.hl_interpreter.proofs.HeldPaths.{literals-end, literals-turn}
use Rattle.hl_interpreter.proofs.places.literal_indexes.Goals as goal

pub loop-part-preserved : goal.loop-part-preserved
loop-part-preserved c =
    literals-turn c.args.parts.now c.loop-part.part-index c.part-item.result c.loop-part.indexes _ _ c.loop-part-test.true c.part-item.is c.in_ok-add_literal.ensures c.loop-part.invariant

pub returns : goal.returns
returns c = literals-end c.args.parts.now c.loop-part.part-index c.loop-part.indexes _ c.loop-part-test.false c.loop-part.invariant

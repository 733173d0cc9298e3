use Rattle.std.proofs.Common.{arith, get_or}
use Rattle.std.proofs.lemmas.List.{get_or_default}
use Rattle.hl_source.specs.Operations.{chosen_word}
use Rattle.hl_interpreter.proofs.Values.{map_3-done, map_3-pushed}
use Rattle.hl_interpreter.proofs.components.chosen_words.Goals as goal

pub loop-at-preserved : goal.loop-at-preserved
loop-at-preserved c =
    let truths = c.args.condition.now in
    let words = c.args.consequent.now in
    let others = c.args.alternative.now in
    let i = c.loop-at.at in
    let x = get_or truths i 0 in
    let y = get_or words i 0 in
    let z = get_or others i 0 in
    map_3-pushed chosen_word truths words others i x y z c.chosen_word.result c.loop-at.result _ _ (omega arith)
    (get_or_default truths i 0 x (omega arith)) (get_or_default words i 0 y (omega arith)) (get_or_default others i 0 z (omega arith))
    c.chosen_word.ensures c.in_ok-push.ensures.ok c.loop-at.invariant

pub returns : goal.returns
returns c = map_3-done chosen_word c.args.condition.now c.args.consequent.now c.args.alternative.now c.loop-at.at c.loop-at.result _ (omega arith) c.loop-at.invariant

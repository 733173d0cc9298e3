use Rattle.std.proofs.Common.{◌∙◌, ap, arith, get_or}
use Rattle.std.proofs.lemmas.List.{get_or_default}
use Rattle.hl_source.specs.Intrinsics.{clamped, lesser}
use Rattle.hl_interpreter.proofs.Values.{map_3-done, map_3-pushed}
use Rattle.hl_interpreter.proofs.intrinsics.clamp_words.Goals as goal

pub loop-at-preserved : goal.loop-at-preserved
loop-at-preserved c =
    let words = c.args.words.now in
    let low = c.args.low.now in
    let high = c.args.high.now in
    let i = c.loop-at.at in
    let x = get_or words i 0 in
    let y = get_or low i 0 in
    let z = get_or high i 0 in
    map_3-pushed (clamped c.args.kind) words low high i x y z c.lesser.result c.loop-at.result _ _ (omega arith)
    (get_or_default words i 0 x (omega arith)) (get_or_default low i 0 y (omega arith)) (get_or_default high i 0 z (omega arith))
    (c.lesser.ensures ∙ ap (λ w. lesser c.args.kind w z) c.greater.ensures) c.in_ok-push.ensures.ok c.loop-at.invariant

pub returns : goal.returns
returns c = map_3-done (clamped c.args.kind) c.args.words.now c.args.low.now c.args.high.now c.loop-at.at c.loop-at.result _ (omega arith) c.loop-at.invariant

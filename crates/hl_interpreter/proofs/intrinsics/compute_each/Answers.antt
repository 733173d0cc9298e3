use Rattle.std.proofs.Common.{get_or}
use Rattle.std.proofs.lemmas.List.{get_or_default}
use Rattle.hl_interpreter.specs.HeldWorks.{plain_one}
use Rattle.hl_interpreter.proofs.Turns.{map-end}
use Rattle.hl_interpreter.proofs.Values.{map-pushed}
use Rattle.hl_interpreter.proofs.intrinsics.compute_each.Goals as goal

pub loop-word-preserved : goal.loop-word-preserved
loop-word-preserved c =
    let words = c.args.words.now in
    let i = c.loop-word.word-index in
    let x = get_or words i 0 in
    map-pushed (plain_one c.args.work c.args.kind) words i x c.compute_one.result c.loop-word.result _ _ c.loop-word-test.true (get_or_default words i 0 x c.loop-word-test.true) c.compute_one.ensures c.in_ok-push.ensures.ok c.loop-word.invariant

pub returns : goal.returns
returns c = map-end (plain_one c.args.work c.args.kind) c.args.words.now c.loop-word.word-index c.loop-word.result _ c.loop-word-test.false c.loop-word.invariant

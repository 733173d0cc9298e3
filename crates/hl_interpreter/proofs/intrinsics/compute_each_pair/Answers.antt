use Rattle.std.proofs.Common.{arith, get_or}
use Rattle.std.proofs.lemmas.List.{get_or_default}
use Rattle.hl_interpreter.specs.HeldWorks.{plain_two}
use Rattle.hl_interpreter.proofs.Values.{map_2-done, map_2-pushed}
use Rattle.hl_interpreter.proofs.intrinsics.compute_each_pair.Goals as goal

pub loop-at-preserved : goal.loop-at-preserved
loop-at-preserved c =
    let left = c.args.left.now in
    let right = c.args.right.now in
    let i = c.loop-at.at in
    let x = get_or left i 0 in
    let y = get_or right i 0 in
    map_2-pushed (plain_two c.args.work c.args.kind) left right i x y c.compute_two.result c.loop-at.result _ _ (omega arith) (get_or_default left i 0 x (omega arith)) (get_or_default right i 0 y (omega arith))
    c.compute_two.ensures c.in_ok-push.ensures.ok c.loop-at.invariant

pub returns : goal.returns
returns c = map_2-done (plain_two c.args.work c.args.kind) c.args.left.now c.args.right.now c.loop-at.at c.loop-at.result _ (omega arith) c.loop-at.invariant

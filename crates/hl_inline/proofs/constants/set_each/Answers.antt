use Rattle.std.proofs.Common.{◌∙◌, ◌++◌, Some, ap, map}
use Rattle.hl_meaning.specs.Views.{plain_constant}
use Rattle.hl_inline.specs.Building.{plain_code}
use Rattle.hl_inline.specs.FlatTrees.{flat_local}
use Rattle.hl_inline.specs.FlatViews.{plain_flat_stmt}
use Rattle.hl_inline.specs.InlinedPrograms.{set_constants}
use Rattle.hl_inline.proofs.FlatPlain.{plain_flat_stmt-Local}
use Rattle.hl_inline.proofs.Gathering.{mapped-more}
use Rattle.hl_inline.proofs.Growing.{constants-end, constants-next}
use Rattle.hl_inline.proofs.constants.set_each.Goals as goal

pub loop-number-init : goal.loop-number-init
loop-number-init c = λ structs same. ap (λ l. plain_code c.args.code.now ++ set_constants structs 0 (map plain_constant l)) c.as_slice-constant-items.ensures.value

pub loop-number-preserved : goal.loop-number-preserved
loop-number-preserved c = λ structs same.
    constants-next structs c.as_slice-constant-items.result.now c.loop-number.number c.constant-item.result (plain_code c.loop-number.code) _ _ c.loop-number-test.true c.constant-item.is
    (mapped-more plain_flat_stmt c.loop-number.code _ _ _ c.in_ok-push.ensures.ok (plain_flat_stmt-Local _ _ ∙ ap (λ v. flat_local c.loop-number.number (Some v)) (c.in_ok-value.ensures structs same)))
    (c.loop-number.invariant structs same)

pub returns : goal.returns
returns c = λ structs same.
    constants-end structs c.as_slice-constant-items.result.now c.loop-number.number (plain_code c.loop-number.code) _ c.loop-number-test.false (c.loop-number.invariant structs same)

use Rattle.std.proofs.Common.{◌∷◌, ◌++◌, [], ap, map, refl}
use Rattle.hl_meaning.specs.Views.{plain_constant, plain_variable}
use Rattle.hl_inline.specs.Building.{constant_variables}
use Rattle.hl_inline.proofs.Gathering.{mapped-more}
use Rattle.hl_inline.proofs.Growing.{given-end, given-next}
use Rattle.hl_inline.proofs.entry.constant_variables.Goals as goal

pub loop-constant-init : goal.loop-constant-init
loop-constant-init c = ap (λ l. map plain_variable l ++ constant_variables (map plain_constant c.args.constants.now)) c.new-variables.ensures

pub loop-constant-preserved : goal.loop-constant-preserved
loop-constant-preserved c =
    let x = c.constant-item.result in
    given-next (λ l. constant_variables (map plain_constant l)) c.args.constants.now c.loop-constant.constant-index x (plain_variable x.variable ∷ []) (map plain_variable c.loop-constant.variables) _ _
    c.loop-constant-test.true c.constant-item.is refl
    (mapped-more plain_variable c.loop-constant.variables _ c.in_ok-copy.copy (plain_variable x.variable) c.in_ok-push.ensures.ok c.in_ok-copy.ensures) c.loop-constant.invariant

pub returns : goal.returns
returns c =
    given-end (λ l. constant_variables (map plain_constant l)) c.args.constants.now c.loop-constant.constant-index (map plain_variable c.loop-constant.variables) _ c.loop-constant-test.false refl c.loop-constant.invariant

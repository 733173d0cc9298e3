use Rattle.std.proofs.Common.{◌∙◌, ap}
use Rattle.std.proofs.lemmas.Result.{IfOk-weaker}
use Rattle.hl_meaning.specs.Views.{plain_expr, plain_part, plain_ty}
use Rattle.hl_values.proofs.StepLemmas.{pick-again, pick-first}
use Rattle.hl_values.proofs.steps.with_pick.Goals as goal

pub returns-in_ok-parts-in-Pick : goal.returns-in_ok-parts-in-Pick
returns-in_ok-parts-in-Pick c =
    let h = c.in_ok-parts-in-Pick.ensures in
    IfOk-weaker c.value_node.result _ _
    (λ picked e. e ∙ pick-again c.args.at (plain_part c.args.part) (plain_ty c.args.ty) c.args.value c.in-Pick.value c.in-Pick.parts c.in_ok-parts-in-Pick.parts c.in-Pick.is h)
    c.value_node.ensures

pub returns-in_ok-parts-in_default : goal.returns-in_ok-parts-in_default
returns-in_ok-parts-in_default c =
    let made = c.in_ok-value-in_default.ensures in
    let h = c.in_ok-parts-in_default.ensures in
    IfOk-weaker c.value_node-in_default.result _ _
    (λ picked e. e ∙ pick-first c.args.at (plain_part c.args.part) (plain_ty c.args.ty) c.args.value c.in_ok-value-in_default.value c.in_ok-parts-in_default.parts c.in_default.not-Pick (ap plain_expr made ∙ c.node.ensures) h)
    c.value_node-in_default.ensures

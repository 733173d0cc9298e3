use Rattle.std.proofs.Common.{◌∙◌, ap, sym}
use Rattle.std.proofs.lemmas.Result.{on_ok_weaker}
use Rattle.hl_inline.specs.Building.{plain_fresh}
use Rattle.hl_inline.specs.Fresh.{with_variables}
use Rattle.hl_inline.proofs.Callees.{no-result, one-result}
use Rattle.hl_inline.proofs.Growing.{none-yet}
use Rattle.hl_inline.proofs.calling.add_result.Goals as goal

pub returns-in-Void : goal.returns-in-Void
returns-in-Void c =
    let fresh = c.args.fresh.now in
    none-yet fresh ∙ ap (λ l. with_variables l (plain_fresh fresh)) (sym (no-result c.args.ty.now c.args.at c.in-Void.is))

pub returns-in_default : goal.returns-in_default
returns-in_default c =
    on_ok_weaker c.add_unnamed.result
    (λ e. e ∙ ap (λ l. with_variables l (plain_fresh c.args.fresh.now)) (sym (one-result c.args.ty.now c.args.at c.in_default.not-Void)))
    c.add_unnamed.ensures

use Rattle.std.proofs.Common.{◌∙◌, sym, ap}
use Rattle.std.proofs.lemmas.Result.{IfOk-weaker}
use Rattle.hl_meaning.proofs.Plain.{plain_ty-Scalar}
use Rattle.hl_rules.specs.Nodes.{converted_code}
use Rattle.hl_values.specs.Views.{plain_code, plain_code_if}
use Rattle.hl_types.specs.Leaves.{leaf_in}
use Rattle.hl_types.proofs.braces.leaf_in.Goals as goal

pub returns-in-Some : goal.returns-in-Some
returns-in-Some c =
    IfOk-weaker c.converted_code.result _ _
    (λ made is.
    is ∙ (ap (λ ty. converted_code ty (plain_code c.in-Some.code)) (plain_ty-Scalar c.args.kind) ∙
    sym (ap (λ o. leaf_in c.args.kind (plain_code_if o)) c.in-Some.is)))
    c.converted_code.ensures

use Rattle.std.proofs.Common.{◌∙◌, sym, ap, option_and_then}
use Rattle.std.proofs.lemmas.Result.{IfOk-weaker}
use Rattle.hl_rules.specs.Nodes.{converted_code}
use Rattle.hl_values.specs.Views.{plain_code_if, plain_type_if}
use Rattle.hl_types.proofs.conditions.converted_to.Goals as goal

pub returns-in-Some : goal.returns-in-Some
returns-in-Some c =
    IfOk-weaker c.converted_if.result _ _
    (λ made is. is ∙ sym (ap (λ ty. option_and_then (λ own. option_and_then (converted_code own) (plain_code_if c.args.code)) (plain_type_if ty)) c.in-Some.is)) c.converted_if.ensures

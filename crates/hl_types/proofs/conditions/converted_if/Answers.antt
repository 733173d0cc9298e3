use Rattle.std.proofs.Common.{◌∙◌, sym, ap, option_and_then}
use Rattle.hl_meaning.specs.Views.{plain_ty}
use Rattle.hl_rules.specs.Nodes.{converted_code}
use Rattle.hl_values.specs.Views.{plain_code_if}
use Rattle.hl_types.proofs.conditions.converted_if.Goals as goal

pub returns-in_ok-value-in-Some : goal.returns-in_ok-value-in-Some
returns-in_ok-value-in-Some c =
    c.unboxed.ensures ∙ (c.in_ok-value-in-Some.ensures ∙ sym (ap (λ code. option_and_then (converted_code (plain_ty c.args.ty.now)) (plain_code_if code)) c.in-Some.is))

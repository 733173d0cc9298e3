use Rattle.std.proofs.Common.{◌∙◌, sym, ap, Some, option_map}
use Rattle.hl_meaning.specs.Views.{plain_expr}
use Rattle.hl_rules.specs.Nodes.{value_of_code}
use Rattle.hl_values.specs.Views.{plain_code_if}
use Rattle.hl_types.proofs.conditions.value_if.Goals as goal

pub returns-in_ok-value-in-Some : goal.returns-in_ok-value-in-Some
returns-in_ok-value-in-Some c =
    ap (λ e. Some e) (ap plain_expr c.into_inner.ensures ∙ c.in_ok-value-in-Some.ensures) ∙ sym (ap (λ code. option_map value_of_code (plain_code_if code)) c.in-Some.is)

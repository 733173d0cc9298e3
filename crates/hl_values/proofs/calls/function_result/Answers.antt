use Rattle.std.proofs.Common.{◌≡◌, ◌∙◌, sym, ap, subst, None, Some, IfOk}
use Rattle.std.specs.Option.{option_copied}
use Rattle.hl_values.specs.Views.{plain_type_if}
use Rattle.hl_values.proofs.CallLemmas.{result-held}
use Rattle.hl_values.proofs.calls.function_result.Goals as goal

pub returns-in-Some : goal.returns-in-Some
returns-in-Some c =
    subst (λ x. IfOk c.copied_if.result (λ ty. plain_type_if ty ≡ x))
    (sym (result-held c.args.scope.now c.args.number (Some c.in-Some.function.now) (sym (ap option_copied c.in-Some.is) ∙ c.value_at.ensures))) c.copied_if.ensures

pub returns-in-None : goal.returns-in-None
returns-in-None c = sym (result-held c.args.scope.now c.args.number None (sym (ap option_copied c.in-None.is) ∙ c.value_at.ensures))

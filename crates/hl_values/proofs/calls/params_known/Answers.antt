use Rattle.std.proofs.Common.{◌≡◌, ◌∙◌, sym, ap}
use Rattle.std.specs.Prelude.{option_map}
use Rattle.hl_overload.specs.Views.{plain_params}
use Rattle.hl_values.specs.Calls.{param_known}
use Rattle.hl_values.specs.Few.{each}
use Rattle.hl_values.specs.ScopeViews.{plain_param}
use Rattle.hl_values.specs.Views.{plain_type_if}
use Rattle.hl_values.proofs.CallLemmas.{none-from, params_known-held}
use Rattle.hl_values.proofs.EachLemmas.{slice-end, slice-stop}
use Rattle.hl_values.proofs.calls.params_known.Goals as goal

pub returns-in_default : goal.returns-in_default
returns-in_default c =
    slice-stop (λ p. param_known (plain_param p)) c.args.params.now c.loop-param.param-index c.param-item.result (plain_params c.loop-param.known) (each (λ p. param_known (plain_param p)) c.args.params.now)
    c.loop-param.invariant c.loop-param-test.true c.param-item.is
    (ap (option_map (λ ty. record { ty = ty; copying = c.param-item.result.copying })) (sym c.in_ok-ty.ensures ∙ ap plain_type_if (none-from c.in_ok-ty.field-0 c.in_default.not-Some))) ∙
    sym (params_known-held c.args.params.now)

pub returns : goal.returns
returns c =
    slice-end (λ p. param_known (plain_param p)) c.args.params.now c.loop-param.param-index (plain_params c.loop-param.known) (each (λ p. param_known (plain_param p)) c.args.params.now) c.loop-param.invariant c.loop-param-test.false ∙
    sym (params_known-held c.args.params.now)

use Rattle.std.proofs.Common.{◌≡◌, drop}
use Rattle.hl_overload.specs.Views.{plain_params}
use Rattle.hl_values.specs.Calls.{param_known}
use Rattle.hl_values.specs.Few.{each}
use Rattle.hl_values.specs.ScopeViews.{plain_param}
use Rattle.hl_values.proofs.EachLemmas.{before}
use Rattle.hl_values.proofs.calls.params_known.Given as goal

abbrev pub invariant-loop-param : goal.invariant-loop-param
invariant-loop-param l =
    before (plain_params l.known) (each (λ p. param_known (plain_param p)) (drop l.param-index l.params)) ≡ each (λ p. param_known (plain_param p)) l.params

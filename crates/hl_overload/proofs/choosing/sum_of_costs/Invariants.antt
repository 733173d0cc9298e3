use Rattle.std.proofs.Common.{◌≡◌, ◌*◌, ◌≤◌, Some}
use Rattle.hl_overload.specs.Choice.{add_costs, sum_of_costs}
use Rattle.hl_overload.specs.Views.{plain_params, plain_types}
use Rattle.hl_overload.proofs.FitLemmas.{sum_from}
use Rattle.hl_overload.proofs.choosing.sum_of_costs.Given as goal

abbrev pub invariant-loop-place : goal.invariant-loop-place
invariant-loop-place l =
    (sum_of_costs (plain_params l.params) (plain_types l.args) ≡ add_costs (Some l.sum) (sum_from l.place l.params l.args)) × (l.sum ≤ 255 * l.place)

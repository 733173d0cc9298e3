use Rattle.std.proofs.Common.{◌≢◌, ◌∙◌, sym, length}
use Rattle.std.proofs.lemmas.List.{length-map}
use Rattle.hl_meaning.specs.Views.{plain_ty}
use Rattle.hl_overload.specs.Views.{plain_param, plain_params, plain_types}
use Rattle.hl_overload.proofs.FitLemmas.{sum_of_costs-lengths}
use Rattle.hl_overload.proofs.choosing.sum_of_costs.Goals as goal

pub returns-then-len-args : goal.returns-then-len-args
returns-then-len-args c =
    let params = c.args.params.now in
    let args = c.args.args.now in
    let other : length (plain_params params) ≢ length (plain_types args) =
    λ same. c.if-len-args.true (c.len.ensures.value ∙ (sym (length-map params plain_param) ∙ (same ∙ length-map args plain_ty))) in
    sym (sum_of_costs-lengths (plain_params params) (plain_types args) other)

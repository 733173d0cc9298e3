use Rattle.std.proofs.Common.{◌<◌, ◌≤◌, length, sym, subst, Some, rules}
use Rattle.std.proofs.lemmas.Option.{none-some}
use Rattle.hl_overload.specs.Choice.{Chooses, sums_of}
use Rattle.hl_overload.specs.Views.{plain_candidates, plain_types}
use Rattle.hl_overload.proofs.BestLemmas.{best_chooses}
use Rattle.hl_overload.proofs.Turns.{best_end, best_turn}
use Rattle.hl_overload.proofs.choosing.choose.Goals as goal

pub loop-place-init : goal.loop-place-init
loop-place-init c = λ place sum fits. absurd (none-some (Some sum) fits)

pub loop-place-preserved : goal.loop-place-preserved
loop-place-preserved c =
    let within : c.loop-place.place < length c.args.candidates.now = search rules in
    best_turn c.args.candidates.now (plain_types c.args.args.now) c.loop-place.place c.index-candidates-place.result c.loop-place.best c.next-best.result c.sum_of_costs.result
    within c.index-candidates-place.is c.loop-place.invariant c.sum_of_costs.ensures c.next-best.ensures

pub returns : goal.returns
returns c =
    let sums = sums_of (plain_candidates c.args.candidates.now) (plain_types c.args.args.now) in
    let past : length c.args.candidates.now ≤ c.loop-place.place = search rules in
    subst (Chooses sums) (sym c.answer.ensures)
    (best_chooses sums c.loop-place.best (best_end c.args.candidates.now (plain_types c.args.args.now) c.loop-place.place c.loop-place.best past c.loop-place.invariant))

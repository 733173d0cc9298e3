use Rattle.std.proofs.Common.{◌∙◌, ◌++◌, ◌-◌, ap, arith}
use Rattle.hl_types.specs.declared.kinds.Step.TheVariants as forms
use Rattle.hl_types.specs.Listing.{finished, steps_weight}
use Rattle.hl_types.proofs.ListingLemmas.{array-more, weight-is, weight-push}
use Rattle.hl_types.proofs.kinds.begin_array.Goals as goal

pub returns-in_ok-push-clause-listed : goal.returns-in_ok-push-clause-listed
returns-in_ok-push-clause-listed c =
    λ structs kinds more at. ap (λ l. finished structs l (kinds ++ more)) c.in_ok-push.ensures.items ∙
    array-more structs c.args.steps.now.items kinds more c.args.start c.args.count (c.args.count - 1) (omega (arith, c.if-count-gt1.true)) at

pub returns-in_ok-push-clause-weight : goal.returns-in_ok-push-clause-weight
returns-in_ok-push-clause-weight c =
    λ structs. weight-is _ _ (ap (steps_weight structs) c.in_ok-push.ensures.items ∙ weight-push structs c.args.steps.now.items (forms.Repeat c.args.start (c.args.count - 1)))

use Rattle.std.proofs.Common.{◌∙◌, ◌+◌, ◌≤◌, ap, subst, sym}
use Rattle.hl_meaning.specs.Types.{struct_type}
use Rattle.hl_types.specs.Listing.{finished, steps_weight, type_weight, weights_front}
use Rattle.hl_types.proofs.ListingLemmas.{finished-same, no-inner, struct-empty, struct-inner, struct-past, weight-inner}
use Rattle.hl_types.proofs.kinds.begin_struct.Goals as goal

pub returns-then-bound-number-clause-listed : goal.returns-then-bound-number-clause-listed
returns-then-bound-number-clause-listed c =
    λ kinds. finished-same c.args.structs.now c.args.steps.now.items kinds _ (struct-past c.args.structs.now c.args.bound c.args.number c.if-bound-number.true c.requires)

pub returns-then-is_empty-clause-listed : goal.returns-then-is_empty-clause-listed
returns-then-is_empty-clause-listed c =
    λ kinds. finished-same c.args.structs.now c.args.steps.now.items kinds _
    (struct-empty c.args.structs.now c.args.bound c.args.number c.if-bound-number.false c.requires (sym c.is_empty.ensures ∙ c.if-is_empty.true))

pub returns-in_ok-push-in-Some-clause-listed : goal.returns-in_ok-push-in-Some-clause-listed
returns-in_ok-push-in-Some-clause-listed c =
    λ kinds. ap (λ l. finished c.args.structs.now l kinds) c.in_ok-push-in-Some.ensures.items ∙
    struct-inner c.args.structs.now c.args.bound c.args.number c.in-Some.innermost c.args.steps.now.items kinds c.if-bound-number.false c.requires c.in-Some.ensures

pub returns-in_ok-push-in-Some-clause-weight : goal.returns-in_ok-push-in-Some-clause-weight
returns-in_ok-push-in-Some-clause-weight c =
    let structs = c.args.structs.now in
    subst (λ l. steps_weight structs l ≤ steps_weight structs c.args.steps.now.items + type_weight (weights_front structs c.args.bound) (struct_type c.args.number))
    (sym c.in_ok-push-in-Some.ensures.items) (weight-inner structs c.args.bound c.args.number c.in-Some.innermost c.args.steps.now.items c.if-bound-number.false c.requires c.in-Some.ensures)

pub returns-in-None-clause-listed : goal.returns-in-None-clause-listed
returns-in-None-clause-listed c = absurd (no-inner c.args.structs.now c.args.bound c.args.number c.if-bound-number.false c.requires c.in-None.ensures)

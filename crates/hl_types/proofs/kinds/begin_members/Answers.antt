use Rattle.std.proofs.Common.{◌∙◌, ◌+◌, ◌++◌, ◌<◌, ◌≤◌, ap, arith, length, subst, unwrap_or}
use Rattle.std.proofs.lemmas.Result.{on_ok_weaker}
use Rattle.hl_meaning.specs.Layout.{kinds_in}
use Rattle.hl_meaning.specs.Types.{void_type}
use Rattle.hl_types.specs.Kinds.{kinds_front}
use Rattle.hl_types.specs.Listing.{finished, steps_weight, type_weight, weights_front}
use Rattle.hl_types.proofs.ListingLemmas.{step-next, value-within, weight-next}
use Rattle.hl_values.specs.Views.{plain_type_if}
use Rattle.hl_types.proofs.kinds.begin_members.Goals as goal

pub returns-in-Some-value_at-clause-listed : goal.returns-in-Some-value_at-clause-listed
returns-in-Some-value_at-clause-listed c =
    let structs = c.args.structs.now in
    let kinds = c.args.kinds.now in
    let ty = c.in-Some-value_at.ty.now in
    on_ok_weaker c.begin_type_if.result
    (λ e. step-next structs c.args.steps.now.items c.begin_type_if.new.steps.items kinds c.begin_type_if.new.kinds c.args.number c.args.at c.in-Some.members.now ty c.in-Some.ensures c.in-Some-value_at.ensures
    (e ∙ ap (λ l. finished structs l (kinds ++ kinds_in (kinds_front structs c.args.number) (unwrap_or (plain_type_if ty) void_type))) c.in_ok-push.ensures.items))
    c.begin_type_if.ensures.listed

pub returns-in-Some-value_at-clause-weight : goal.returns-in-Some-value_at-clause-weight
returns-in-Some-value_at-clause-weight c =
    let structs = c.args.structs.now in
    let ty = c.in-Some-value_at.ty.now in
    let weight = steps_weight structs c.begin_type_if.new.steps.items in
    on_ok_weaker c.begin_type_if.result
    (λ e. weight-next structs c.args.steps.now.items weight c.args.number c.args.at c.in-Some.members.now ty c.in-Some.ensures c.in-Some-value_at.ensures
    (subst (λ l. weight ≤ steps_weight structs l + type_weight (weights_front structs c.args.number) (unwrap_or (plain_type_if ty) void_type)) c.in_ok-push.ensures.items e))
    c.begin_type_if.ensures.weight

pub returns-in-None-clause-listed : goal.returns-in-None-clause-listed
returns-in-None-clause-listed c =
    let within : c.args.at < length c.in-Some.members.now = omega (arith, c.if-len-at.false, c.len.ensures.value) in
    absurd (value-within c.in-Some.members.now c.args.at within c.in-None.ensures)

pub returns-in-None-clause-weight : goal.returns-in-None-clause-weight
returns-in-None-clause-weight c =
    let within : c.args.at < length c.in-Some.members.now = omega (arith, c.if-len-at.false, c.len.ensures.value) in
    absurd (value-within c.in-Some.members.now c.args.at within c.in-None.ensures)

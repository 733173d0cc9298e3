use Rattle.std.proofs.Common.{◌≡◌, ◌∙◌, ◌++◌, [], sym, ap, rules}
use Rattle.hl_meaning.specs.Layout.{kinds_in}
use Rattle.hl_meaning.specs.Views.{plain_ty}
use Rattle.hl_types.specs.Kinds.{kinds_front}
use Rattle.hl_types.specs.Listing.{finished, steps_weight}
use Rattle.hl_types.proofs.KindLemmas.{kinds-are}
use Rattle.hl_types.proofs.ListingLemmas.{finished-push, weight-popped, weight-push}
use Rattle.hl_types.proofs.kinds.kinds_of.Goals as goal

pub loop-step-init : goal.loop-step-init
loop-step-init c =
    let structs = c.args.structs.now in
    let ty = plain_ty c.args.ty.now in
    let own = kinds_in (kinds_front structs c.len.result) ty in
    c.in_ok-begin_type.ensures.listed ∙ (ap (λ l. finished structs l (c.new-kinds.result ++ own)) c.new-steps.ensures.items ∙ (ap (λ l. l ++ own) c.new-kinds.ensures ∙
    (ap (λ n. kinds_in (kinds_front structs n) ty) c.len.ensures.value ∙ sym (kinds-are structs ty))))

pub loop-step-preserved : goal.loop-step-preserved
loop-step-preserved c =
    let structs = c.args.structs.now in
    c.in_ok-begin.ensures.listed ∙ (sym (finished-push structs c.pop.new.self.items c.in-Some.step c.loop-step.kinds) ∙
    (ap (λ l. finished structs l c.loop-step.kinds) (sym c.in-Some.ensures.items) ∙ c.loop-step.invariant))

pub loop-step-smaller : goal.loop-step-smaller
loop-step-smaller c =
    let structs = c.args.structs.now in
    weight-popped _ _ _ _ c.in_ok-begin.ensures.weight (ap (steps_weight structs) c.in-Some.ensures.items ∙ weight-push structs c.pop.new.self.items c.in-Some.step)

pub returns : goal.returns
returns c =
    let none : c.loop-step.steps.items ≡ [] = search rules in
    ap (λ l. finished c.args.structs.now l c.loop-step.kinds) (sym none) ∙ c.loop-step.invariant

use Rattle.std.proofs.Common.{sym}
use Rattle.std.proofs.lemmas.Result.{IfOk-weaker}
use Rattle.hl_values.proofs.StepLemmas.{behind-index, behind-member, behind-swizzle}
use Rattle.hl_values.proofs.steps.merged_behind.Goals as goal

pub returns-in_ok-merged_letters-in-Swizzle : goal.returns-in_ok-merged_letters-in-Swizzle
returns-in_ok-merged_letters-in-Swizzle c =
    let h = c.in_ok-merged_letters-in-Swizzle.ensures in
    let long = c.if-not-is_longer.ensures in
    behind-swizzle c.args.letters.now c.in-Swizzle.behind c.in_ok-merged_letters-in-Swizzle.field-0 c.args.part.now c.in-Swizzle.is (sym long) h

pub returns-in-Index : goal.returns-in-Index
returns-in-Index c =
    let long = c.if-not-is_longer.ensures in
    IfOk-weaker c.picked_letter.result _ _ (λ picked e. behind-index c.args.letters.now c.in-Index.index c.get.result.now c.args.part.now picked c.in-Index.is c.get.ensures (sym long) e) c.picked_letter.ensures

pub returns-in-Member : goal.returns-in-Member
returns-in-Member c = behind-member c.args.letters.now _ c.args.part.now c.in-Member.is

use Rattle.hl_values.proofs.StepLemmas.{joined-one, joined-two, merged-at}
use Rattle.hl_values.proofs.steps.joined.Goals as goal

pub returns-in_ok-push-in-Some : goal.returns-in_ok-push-in-Some
returns-in_ok-push-in-Some c =
    let h = c.in_ok-letters.ensures in
    let pushed = c.in_ok-push-in-Some.ensures in
    joined-one c.args.front c.push.new.self c.args.before c.args.part c.in-Some.letters pushed.ok (merged-at c.args.before c.args.part c.in_ok-letters.field-0 _ c.in-Some.is h)

pub returns-in_ok-push-in-None-2 : goal.returns-in_ok-push-in-None-2
returns-in_ok-push-in-None-2 c =
    let h = c.in_ok-letters.ensures in
    let first = c.in_ok-push-in-None.ensures in
    let second = c.in_ok-push-in-None-2.ensures in
    joined-two c.args.front c.push-in-None.new.self c.push-in-None-2.new.self c.args.before c.args.part first.ok second.ok (merged-at c.args.before c.args.part c.in_ok-letters.field-0 _ c.in-None.is h)

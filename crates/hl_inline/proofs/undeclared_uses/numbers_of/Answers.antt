use Rattle.std.proofs.Common.{◌∙◌, ap, arith, false, get_or}
use Rattle.std.specs.List.{filter, range_with_len}
use Rattle.hl_inline.proofs.NotedUses.{marked-next, unmarked-next}
use Rattle.hl_inline.proofs.undeclared_uses.numbers_of.Goals as goal
use Rattle.hl_inline.proofs.undeclared_uses.numbers_of.Goals.{else-mark, then-mark+in_ok-push}

pub loop-number-preserved : goal.loop-number-preserved
loop-number-preserved c =
    let marks = c.args.marks.now in
    let i = c.loop-number.number in
    let numbers = c.loop-number.numbers in
    elim c.if-mark.branch [
      | then-mark+in_ok-push w ↦ w.numbers-is ∙ (w.in_ok-push.ensures.ok ∙ marked-next marks i numbers c.loop-number.invariant w.if-mark.true)
      | else-mark w ↦ w.numbers-is ∙ unmarked-next marks i numbers c.loop-number.invariant w.if-mark.false
    ]

pub returns : goal.returns
returns c =
    c.loop-number.invariant ∙ ap (λ n. filter (λ k. get_or c.args.marks.now k false) (range_with_len 0 n)) (omega (arith, c.loop-number-test.false, c.loop-number.auto.number-end))

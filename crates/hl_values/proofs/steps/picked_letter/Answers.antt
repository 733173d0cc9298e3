use Rattle.std.proofs.Common.{◌∙◌, sym, ap, Some}
use Rattle.hl_values.proofs.StepLemmas.{picked-none, picked-some}
use Rattle.hl_values.proofs.steps.picked_letter.Goals as goal

pub returns-in_ok-one_letter-in-Literal : goal.returns-in_ok-one_letter-in-Literal
returns-in_ok-one_letter-in-Literal c =
    let h = c.in_ok-one_letter-in-Literal.ensures in
    ap (λ l. Some l) h ∙ sym (picked-some c.args.letters.now c.args.index.now c.in-Literal.number c.in-Literal.is)

pub returns-in_default : goal.returns-in_default
returns-in_default c = sym (picked-none c.args.letters.now c.args.index.now c.in_default.not-Literal)

use Rattle.hl_inline.proofs.GivenForms.{expr-as}
use Rattle.hl_inline.proofs.copies.reading.Goals as goal

pub returns : goal.returns
returns c = expr-as _ _ _ c.in_ok-ty.ensures c.in_ok-form.ensures

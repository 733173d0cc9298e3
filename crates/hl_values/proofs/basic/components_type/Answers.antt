use Rattle.std.proofs.Common.{◌∙◌, sym}
use Rattle.hl_meaning.proofs.Plain.{plain_ty-Scalar, plain_ty-Vector}
use Rattle.hl_values.proofs.BasicLemmas.{components-one, components-more}
use Rattle.hl_values.proofs.basic.components_type.Goals as goal

pub returns-then-count-eq1 : goal.returns-then-count-eq1
returns-then-count-eq1 c = plain_ty-Scalar _ ∙ sym (components-one c.args.kind c.args.count c.if-count-eq1.true)

pub returns-else-count-eq1 : goal.returns-else-count-eq1
returns-else-count-eq1 c = plain_ty-Vector _ _ ∙ sym (components-more c.args.kind c.args.count c.if-count-eq1.false)

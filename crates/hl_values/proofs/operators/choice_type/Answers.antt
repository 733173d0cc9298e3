use Rattle.hl_meaning.specs.Views.{plain_ty}
use Rattle.hl_values.specs.Basics.{basic_ty}
use Rattle.hl_values.proofs.BasicLemmas.{of_three_operands}
use Rattle.hl_values.proofs.operators.choice_type.Goals as goal

pub returns : goal.returns
returns c =
    of_three_operands (plain_ty c.args.condition.now) (plain_ty c.args.yes.now) (plain_ty c.args.no.now) (basic_ty c.in_ok-condition.field-0) (basic_ty c.in_ok-yes.field-0) (basic_ty c.in_ok-no.field-0) (basic_ty c.choice.result) (plain_ty c.ty.result)
    c.in_ok-condition.ensures c.in_ok-yes.ensures c.in_ok-no.ensures c.choice.ensures c.ty.ensures

use Rattle.hl_meaning.specs.Views.{plain_ty}
use Rattle.hl_rules.specs.Operands.{operator_type}
use Rattle.hl_values.specs.Basics.{basic_ty, production_of}
use Rattle.hl_values.proofs.BasicLemmas.{of_operands}
use Rattle.hl_values.proofs.operators.Operator.operator_type.Goals as goal

pub returns : goal.returns
returns c =
    of_operands (operator_type (production_of c.args.self)) (plain_ty c.args.a.now) (plain_ty c.args.b.now) (basic_ty c.in_ok-a.field-0) (basic_ty c.in_ok-b.field-0) (basic_ty c.result.result) (plain_ty c.ty.result)
    c.in_ok-a.ensures c.in_ok-b.ensures c.result.ensures c.ty.ensures

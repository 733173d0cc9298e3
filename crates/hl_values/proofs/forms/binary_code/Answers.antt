use Rattle.std.proofs.Common.{◌∙◌, sym, ap, Some}
use Rattle.hl_meaning.specs.Views.{plain_expr, plain_ty}
use Rattle.hl_rules.specs.Expressions.{binary_code}
use Rattle.hl_rules.specs.Nodes.{converted_code}
use Rattle.hl_rules.specs.Operands.{operand_type, operator_type}
use Rattle.hl_values.specs.Basics.{production_of}
use Rattle.hl_values.specs.Views.{plain_code, plain_code_if}
use Rattle.hl_values.proofs.FormLemmas.{binary-done, of_codes, there, two-there}
use Rattle.hl_values.proofs.forms.binary_code.Goals as goal

pub returns : goal.returns
returns c =
    let made = c.in_ok-made.ensures in
    let ty = c.in-Some-operand_type.ensures in
    let gives = c.in-Some-operator_type.ensures in
    let left = c.in_ok-left.ensures in
    let right = c.in_ok-right.ensures in
    binary-done (production_of c.args.operator) c.args.at c.args.mark (plain_code c.in-Some.left) (plain_code c.in-Some-right.right) c.in-Some-operand_type.ty c.in-Some-operator_type.gives c.in-Some-2.left c.in-Some-3.right (plain_code c.in_ok-made.made)
    (of_codes (operand_type (production_of c.args.operator)) (plain_code c.in-Some.left) (plain_code c.in-Some-right.right) (plain_ty c.ty.result.now) (plain_ty c.ty-2.result.now) (Some (plain_ty c.in-Some-operand_type.ty)) ty c.ty.ensures c.ty-2.ensures)
    (of_codes (operator_type (production_of c.args.operator)) (plain_code c.in-Some.left) (plain_code c.in-Some-right.right) (plain_ty c.ty-3.result.now) (plain_ty c.ty-4.result.now) (Some (plain_ty c.in-Some-operator_type.gives)) gives c.ty-3.ensures c.ty-4.ensures)
    (there plain_expr c.in_ok-left.field-0 c.in-Some-2.left (converted_code (plain_ty c.in-Some-operand_type.ty) (plain_code c.in-Some.left)) c.in-Some-2.is left)
    (there plain_expr c.in_ok-right.field-0 c.in-Some-3.right (converted_code (plain_ty c.in-Some-operand_type.ty) (plain_code c.in-Some-right.right)) c.in-Some-3.is right)
    made ∙
    two-there (binary_code (production_of c.args.operator) c.args.at c.args.mark) (plain_code_if c.args.left) (plain_code_if c.args.right) (plain_code c.in-Some.left) (plain_code c.in-Some-right.right) (ap (λ o. plain_code_if o) (sym c.in-Some.is)) (ap (λ o. plain_code_if o) (sym c.in-Some-right.is))

use Rattle.std.proofs.Common.{sym, ap}
use Rattle.hl_meaning.specs.Views.{plain_expr, plain_ty}
use Rattle.hl_rules.specs.Nodes.{converted_code}
use Rattle.hl_values.specs.Views.{plain_code, plain_type_if}
use Rattle.hl_values.proofs.FormLemmas.{signed-done, there}
use Rattle.hl_values.proofs.forms.signed_code.Goals as goal

pub returns : goal.returns
returns c =
    let made = c.in_ok-made.ensures in
    let value = c.in_ok-value.ensures in
    signed-done c.args.at c.args.mark (plain_type_if c.args.ty) c.in-Some.ty (plain_code c.args.operand) c.in-Some-2.value (plain_code c.in_ok-made.made) (ap (λ o. plain_type_if o) (sym c.in-Some.is))
    (there plain_expr c.in_ok-value.field-0 c.in-Some-2.value (converted_code (plain_ty c.in-Some.ty) (plain_code c.args.operand)) c.in-Some-2.is value) made

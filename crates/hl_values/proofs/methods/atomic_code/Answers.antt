use Rattle.std.proofs.Common.{◌∙◌, sym, ap}
use Rattle.std.specs.Prelude.{option_map}
use Rattle.hl_meaning.specs.Views.{plain_expr, plain_ty}
use Rattle.hl_values.specs.Atomics.{plain_operands}
use Rattle.hl_values.proofs.AtomicLemmas.{ok_along}
use Rattle.hl_values.proofs.MethodLemmas.{atomic-behind}
use Rattle.hl_values.proofs.methods.atomic_code.Goals as goal

pub returns : goal.returns
returns c = λ buffer first constant.
    ok_along c.interlocked.result _ _ c.interlocked.ensures
    (atomic-behind buffer c.args.at c.args.resource first constant c.args.form c.args.codes.items c.in-Some.rest.items c.in-Some.code c.in-Some-2.address (plain_operands c.in-Some-operands_of.operands) (plain_ty c.ty.result.now) (plain_ty c.bytes_operand-ty.result)
    (sym (ap (option_map (λ p. (p.0, p.1.items))) c.in-Some.is) ∙ c.first_and_rest.ensures)
    (sym (ap (option_map plain_operands) c.in-Some-operands_of.is) ∙ c.operands_of.ensures)
    (sym (ap (option_map plain_expr) c.in-Some-2.is) ∙ c.in_ok-address.ensures) c.ty.ensures c.bytes_operand-ty.ensures)

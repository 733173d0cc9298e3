use Rattle.std.proofs.Common.{◌≡◌, ◌∙◌, sym, ap}
use Rattle.std.specs.Prelude.{option_map}
use Rattle.hl_meaning.specs.Views.{plain_form, plain_target, plain_ty}
use Rattle.hl_values.specs.Atomics.{plain_converted, plain_operands}
use Rattle.hl_values.specs.Views.{plain_code}
use Rattle.hl_values.proofs.AtomicLemmas.{interlocked-none, interlocked-some}
use Rattle.hl_values.proofs.interlocked.interlocked.Goals as goal

pub returns-in_ok-value_node-in-Some : goal.returns-in_ok-value_node-in-Some
returns-in_ok-value_node-in-Some c =
    interlocked-some c.args.at (plain_target c.args.target) (plain_ty c.args.ty.now) c.args.form (plain_operands c.args.operands) (plain_converted c.in-Some.converted) c.kind_for-kind.result (plain_form c.atomic_form-operation.result) (plain_code c.in_ok-value_node-in-Some.field-0)
    (sym (ap (option_map plain_converted) c.in-Some.is) ∙ c.in_ok-converted.ensures) c.in_ok-value_node-in-Some.ensures c.atomic_form-operation.ensures c.kind_for-kind.ensures

pub returns-in-None : goal.returns-in-None
returns-in-None c =
    interlocked-none c.args.at (plain_target c.args.target) (plain_ty c.args.ty.now) c.args.form (plain_operands c.args.operands)
    (sym (ap (option_map plain_converted) c.in-None.is) ∙ c.in_ok-converted.ensures)

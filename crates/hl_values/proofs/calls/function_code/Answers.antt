use Rattle.std.proofs.Common.{◌∙◌, sym, ap, map}
use Rattle.std.specs.Prelude.{option_map}
use Rattle.hl_meaning.specs.Views.{plain_args}
use Rattle.hl_overload.specs.Views.{plain_params}
use Rattle.hl_rules.specs.Expressions.{passed_args}
use Rattle.hl_values.specs.Calls.{plain_callee}
use Rattle.hl_values.specs.Views.{plain_code, plain_type_if}
use Rattle.hl_values.proofs.PassedLemmas.{call-made}
use Rattle.hl_values.proofs.calls.function_code.Goals as goal

pub returns : goal.returns
returns c = λ s gives.
    call-made s c.args.at (plain_callee c.args.callee.now) c.args.codes.items c.in-Some.ty c.in-Some-2.args (plain_code c.in_ok-value_node.field-0)
    (gives ∙ ap plain_type_if c.in-Some.is)
    (sym (ap (option_map plain_args) c.in-Some-2.is) ∙ (c.in_ok-args.ensures ∙ ap (λ l. passed_args (plain_params l) (map plain_code c.args.codes.items)) c.as_slice.ensures.value))
    c.in_ok-value_node.ensures

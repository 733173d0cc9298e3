use Rattle.std.proofs.Common.{◌∙◌, sym, ap}
use Rattle.std.specs.Prelude.{option_map}
use Rattle.hl_meaning.specs.Views.{plain_expr, plain_ty}
use Rattle.hl_values.specs.Views.{plain_code}
use Rattle.hl_values.proofs.MethodLemmas.{store-made}
use Rattle.hl_values.proofs.methods.stored_words.Goals as goal

pub returns : goal.returns
returns c = λ buffer first constant.
    store-made buffer c.args.at c.args.resource c.args.count first constant c.args.codes.items c.in-Some.code c.in-Some.stored c.in-Some-2.address c.in-Some-3.value (plain_ty c.components_type-words.result) (plain_code c.in_ok-value_node.field-0)
    (sym c.in-Some.is ∙ c.two.ensures) (sym (ap (option_map plain_expr) c.in-Some-2.is) ∙ c.in_ok-address.ensures) c.components_type-words.ensures
    (sym (ap (option_map plain_expr) c.in-Some-3.is) ∙ c.in_ok-value.ensures) c.in_ok-value_node.ensures

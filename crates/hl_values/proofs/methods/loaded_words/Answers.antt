use Rattle.std.proofs.Common.{◌∙◌, sym, ap}
use Rattle.std.specs.Prelude.{option_map}
use Rattle.hl_meaning.specs.Views.{plain_expr}
use Rattle.hl_values.specs.Views.{plain_code}
use Rattle.hl_values.proofs.MethodLemmas.{load-made}
use Rattle.hl_values.proofs.methods.loaded_words.Goals as goal

pub returns : goal.returns
returns c = λ buffer first constant.
    load-made buffer c.args.at c.args.resource c.args.count first constant c.args.codes.items c.in-Some.code c.in-Some-2.address c.components_type.result (plain_code c.in_ok-value_node.field-0)
    (sym c.in-Some.is ∙ c.one.ensures) (sym (ap (option_map plain_expr) c.in-Some-2.is) ∙ c.in_ok-address.ensures) c.components_type.ensures c.in_ok-value_node.ensures

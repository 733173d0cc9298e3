use Rattle.std.proofs.Common.{◌∙◌, sym, ap}
use Rattle.std.specs.Prelude.{option_map}
use Rattle.hl_meaning.specs.Views.{plain_expr, plain_location}
use Rattle.hl_values.specs.ScopeViews.{plain_buffer}
use Rattle.hl_values.specs.Views.{plain_code}
use Rattle.hl_values.proofs.MethodLemmas.{element-read}
use Rattle.hl_values.proofs.methods.loaded_element.Goals as goal

pub returns : goal.returns
returns c =
    element-read (plain_buffer c.args.call.buffer.now) c.args.call.at c.args.call.number c.args.call.first c.args.call.constant c.args.codes.items c.in-Some.code c.in-Some-2.index c.in-Some-3.place c.in_ok-ty.ty (plain_code c.in_ok-value_node.field-0)
    (sym c.in-Some.is ∙ c.one.ensures) (sym (ap (option_map plain_expr) c.in-Some-2.is) ∙ c.in_ok-index.ensures)
    (sym (ap (option_map plain_location) c.in-Some-3.is) ∙ c.in_ok-place.ensures) c.in_ok-ty.ensures c.in_ok-value_node.ensures

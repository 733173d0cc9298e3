use Rattle.std.proofs.Common.{◌∙◌, ap, None}
use Rattle.std.specs.Prelude.{option_and_then, option_map}
use Rattle.std.proofs.lemmas.Result.{IfOk-weaker}
use Rattle.hl_rules.specs.Expressions.{element_in}
use Rattle.hl_rules.specs.Nodes.{a_place_code}
use Rattle.hl_rules.specs.Values.{element_value}
use Rattle.hl_values.specs.Known.{known}
use Rattle.hl_values.specs.ScopeViews.{plain_buffer}
use Rattle.hl_types.proofs.indexes.element.Goals as goal

pub returns : goal.returns
returns c =
    let place = c.in_ok-place.ensures in
    let code = c.in_ok-code.ensures in
    IfOk-weaker c.element_value.result _ _
    (λ t e. e ∙ ap (λ x. known (element_value (plain_buffer c.args.buffer.now)) None x)
    (code ∙ ap (λ p. option_and_then (λ i. option_map (a_place_code c.args.at) (element_in (plain_buffer c.args.buffer.now) c.args.number i)) p) place))
    c.element_value.ensures

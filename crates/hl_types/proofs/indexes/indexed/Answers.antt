use Rattle.std.proofs.Common.{◌∙◌, ap, None}
use Rattle.std.specs.Prelude.{option_and_then}
use Rattle.std.proofs.lemmas.Result.{IfOk-weaker}
use Rattle.hl_rules.specs.Expressions.{indexed_code}
use Rattle.hl_rules.specs.Values.{indexed_value}
use Rattle.hl_values.specs.Known.{known}
use Rattle.hl_values.specs.Views.{plain_code_if, plain_standing, plain_type_if}
use Rattle.hl_types.proofs.indexes.indexed.Goals as goal

pub returns : goal.returns
returns c = λ s.
    let element = c.in_ok-element.ensures in
    let place = c.in_ok-place.ensures in
    let code = c.in_ok-code.ensures in
    IfOk-weaker c.indexed_value.result _ _
    (λ t e. e ∙ ap (λ x. known (indexed_value c.args.index.number (plain_type_if c.args.value.ty) (plain_standing c.args.value.standing)) None x)
    (code ∙ ap (λ p. option_and_then (λ i. option_and_then (indexed_code c.args.at i) (plain_code_if c.args.value.code)) p) place))
    (c.indexed_value.ensures (plain_type_if c.args.value.ty) element)

use Rattle.std.proofs.Common.{◌∙◌, ap, None}
use Rattle.std.specs.Prelude.{option_and_then}
use Rattle.std.proofs.lemmas.Result.{IfOk-weaker}
use Rattle.hl_rules.specs.Expressions.{dotted_code}
use Rattle.hl_rules.specs.Values.{dotted_value}
use Rattle.hl_values.specs.Known.{known}
use Rattle.hl_values.specs.ScopeViews.{scope_of}
use Rattle.hl_values.specs.Views.{plain_code_if, plain_standing, plain_type_if}
use Rattle.hl_types.proofs.dots.dotted.Goals as goal

pub returns : goal.returns
returns c =
    let s = scope_of c.args.scope.now in
    let ty = plain_type_if c.args.value.ty in
    let standing = plain_standing c.args.value.standing in
    let made = c.in_ok-code.ensures in
    IfOk-weaker c.dotted_value.result _ _
    (λ t e. e ∙ (ap (λ x. known (dotted_value s c.text_at-word.result.now ty standing) None x) made ∙
    ap (λ w. known (dotted_value s w ty standing) None (option_and_then (dotted_code s c.args.at w) (plain_code_if c.args.value.code))) c.text_at-word.ensures))
    c.dotted_value.ensures

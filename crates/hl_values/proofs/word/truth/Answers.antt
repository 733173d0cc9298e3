use Rattle.std.proofs.Common.{◌∙◌, ap, Some}
use Rattle.hl_meaning.specs.declared.ty.Kind.TheVariants.{Bool as BoolKind}
use Rattle.hl_meaning.specs.Trees.{literal_form}
use Rattle.hl_meaning.specs.Types.{bool_type}
use Rattle.hl_meaning.proofs.Plain.{plain_ty-Scalar}
use Rattle.hl_rules.specs.Nodes.{a_value}
use Rattle.hl_values.specs.Known.{known_value}
use Rattle.hl_values.specs.Views.{plain_code}
use Rattle.hl_values.proofs.word.truth.Goals as goal

pub returns : goal.returns
returns c =
    let code = c.in_ok-code.ensures in
    c.value.ensures ∙ (ap (λ t. known_value (Some t) (Some (plain_code c.in_ok-code.code))) (plain_ty-Scalar BoolKind) ∙
    ap (λ x. known_value (Some bool_type) x) (code ∙ ap (λ t. a_value t c.args.at (literal_form c.args.word)) (plain_ty-Scalar BoolKind)))

use Rattle.std.proofs.Common.{◌∙◌, sym, ap, Some}
use Rattle.std.specs.Prelude.{option_map}
use Rattle.hl_meaning.specs.declared.ty.Kind.TheVariants.{Uint}
use Rattle.hl_meaning.specs.Trees.{an_expr}
use Rattle.hl_meaning.specs.Types.{uint_type}
use Rattle.hl_meaning.specs.Views.{plain_expr, plain_form, plain_ty}
use Rattle.hl_meaning.proofs.Plain.{plain_form-Literal, plain_ty-Scalar}
use Rattle.hl_meaning.specs.declared.expression.Form.TheVariants.{Literal}
use Rattle.hl_rules.specs.Expressions.{index_expr, no_literal}
use Rattle.hl_rules.specs.Nodes.{converted_code}
use Rattle.hl_values.specs.Views.{plain_code}
use Rattle.hl_values.proofs.FormLemmas.{gone, there}
use Rattle.hl_values.proofs.forms.index_expr.Goals as goal

pub returns-in_ok-new-in-Some : goal.returns-in_ok-new-in-Some
returns-in_ok-new-in-Some c =
    let new = c.in_ok-new-in-Some.ensures in
    ap (λ x. Some x) (ap plain_expr new ∙ (c.node-index.ensures ∙ (ap (λ t. an_expr t c.args.at (plain_form (Literal c.in-Some.number))) (plain_ty-Scalar Uint) ∙ ap (λ f. an_expr uint_type c.args.at f) (plain_form-Literal c.in-Some.number)))) ∙
    ap (λ o. index_expr c.args.at o (plain_code c.args.code)) (sym c.in-Some.is)

pub returns-in_default : goal.returns-in_default
returns-in_default c =
    let h = c.in_ok-index-in-None.ensures in
    ap (λ o. option_map no_literal o) (gone plain_expr c.in_ok-index-in-None.field-0 (converted_code uint_type (plain_code c.args.code)) c.in_default.is (h ∙ ap (λ t. converted_code t (plain_code c.args.code)) (plain_ty-Scalar Uint))) ∙
    ap (λ o. index_expr c.args.at o (plain_code c.args.code)) (sym c.in-None.is)

pub returns-in_ok-no_literal-in-None : goal.returns-in_ok-no_literal-in-None
returns-in_ok-no_literal-in-None c =
    let h = c.in_ok-index-in-None.ensures in
    let made = c.in_ok-no_literal-in-None.ensures in
    ap (λ x. Some x) made ∙
    (ap (λ o. option_map no_literal o) (there plain_expr c.in_ok-index-in-None.field-0 c.in-Some-2.index (converted_code uint_type (plain_code c.args.code)) c.in-Some-2.is (h ∙ ap (λ t. converted_code t (plain_code c.args.code)) (plain_ty-Scalar Uint))) ∙
    ap (λ o. index_expr c.args.at o (plain_code c.args.code)) (sym c.in-None.is))

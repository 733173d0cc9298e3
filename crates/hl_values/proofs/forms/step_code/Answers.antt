use Rattle.std.proofs.Common.{◌∙◌, ap, Some}
use Rattle.std.proofs.lemmas.Result.{IfOk-weaker}
use Rattle.std.proofs.lemmas.Option.{same_Some}
use Rattle.hl_meaning.specs.declared.ty.Kind.TheVariants.{Int}
use Rattle.hl_meaning.specs.Trees.{an_expr, literal_form}
use Rattle.hl_meaning.proofs.Plain.{plain_ty-Scalar}
use Rattle.hl_rules.specs.Expressions.{compound_code, step_mark}
use Rattle.hl_rules.specs.Nodes.{a_value_code}
use Rattle.hl_values.specs.Views.{plain_code}
use Rattle.hl_values.proofs.forms.step_code.Goals as goal

pub returns : goal.returns
returns c =
    let one = c.in_ok-one.ensures in
    IfOk-weaker c.compound_code.result _ _
    (λ code e. e ∙ (ap (λ op. compound_code 38 c.args.at op c.args.old (plain_code c.args.operand) (plain_code c.in_ok-one.one)) c.step_mark.ensures ∙
    ap (λ x. compound_code 38 c.args.at (step_mark c.args.terminal) c.args.old (plain_code c.args.operand) x) (same_Some _ _ one ∙ ap (λ t. a_value_code (an_expr t c.args.mark (literal_form 1))) (plain_ty-Scalar Int))))
    c.compound_code.ensures

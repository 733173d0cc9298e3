use Rattle.std.proofs.Common.{◌∙◌, ap, Some}
use Rattle.std.proofs.lemmas.Result.{IfOk-weaker}
use Rattle.hl_meaning.specs.Trees.{an_expr}
use Rattle.hl_meaning.specs.Views.{plain_ty}
use Rattle.hl_meaning.proofs.Plain.{plain_form-Literal}
use Rattle.hl_rules.specs.Nodes.{a_value_code}
use Rattle.hl_values.proofs.forms.literal.Goals as goal

pub returns : goal.returns
returns c =
    IfOk-weaker c.value_node.result _ _ (λ code e. ap (λ x. Some x) (e ∙ ap (λ f. a_value_code (an_expr (plain_ty c.args.ty) c.args.at f)) (plain_form-Literal c.args.word))) c.value_node.ensures

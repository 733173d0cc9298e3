use Rattle.std.proofs.Common.{◌∙◌, sym, ap}
use Rattle.std.proofs.lemmas.Result.{IfOk-weaker}
use Rattle.hl_meaning.specs.declared.expression.Location.{Location}
use Rattle.hl_meaning.specs.Views.{plain_expr, plain_location, plain_ty}
use Rattle.hl_rules.specs.Nodes.{converted_code}
use Rattle.hl_values.specs.Views.{plain_code}
use Rattle.hl_values.proofs.FormLemmas.{assignment-done, assignment-gone, gone, there}
use Rattle.hl_values.proofs.NodeLemmas.{place_type-is}
use Rattle.hl_values.proofs.forms.plain_assignment.Goals as goal

pub returns-in_default-2 : goal.returns-in_default-2
returns-in_default-2 c =
    let place = c.in-Some.ensures in
    let h = c.in_ok-value.ensures in
    assignment-gone c.args.at (plain_code c.args.left) (plain_code c.args.right) (plain_location c.in-Some.to) (plain_ty c.get.result.now.ty) place (ap (λ (p : Location). plain_ty p.ty) c.get.ensures ∙ sym (place_type-is c.in-Some.to))
    (gone plain_expr c.in_ok-value.field-0 (converted_code (plain_ty c.get.result.now.ty) (plain_code c.args.right)) c.in_default-2.is h)

pub returns : goal.returns
returns c =
    let place = c.in-Some.ensures in
    let h = c.in_ok-value.ensures in
    let common = c.in_ok-common.ensures in
    IfOk-weaker c.written.result _ _
    (λ code e. e ∙ assignment-done c.args.at (plain_code c.args.left) (plain_code c.args.right) (plain_location c.in-Some.to) (plain_ty c.get.result.now.ty) (plain_ty c.in_ok-common.common) (plain_expr c.in-Some-2.value) place
    (ap (λ (p : Location). plain_ty p.ty) c.get.ensures ∙ sym (place_type-is c.in-Some.to))
    (common ∙ (ap (λ (p : Location). plain_ty p.ty) c.get-2.ensures ∙ sym (place_type-is c.in-Some.to)))
    (there plain_expr c.in_ok-value.field-0 c.in-Some-2.value (converted_code (plain_ty c.get.result.now.ty) (plain_code c.args.right)) c.in-Some-2.is h))
    c.written.ensures

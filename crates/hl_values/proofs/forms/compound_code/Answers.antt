use Rattle.std.proofs.Common.{◌∙◌, sym, ap}
use Rattle.std.proofs.lemmas.Result.{IfOk-weaker}
use Rattle.hl_meaning.specs.declared.expression.Location.{Location}
use Rattle.hl_meaning.specs.Views.{plain_expr, plain_location, plain_ty}
use Rattle.hl_rules.specs.Nodes.{converted_code}
use Rattle.hl_values.specs.Basics.{production_of}
use Rattle.hl_values.specs.Views.{plain_code}
use Rattle.hl_values.proofs.FormLemmas.{compound-done, compound-gone, compound-none_type, gone, there}
use Rattle.hl_values.proofs.NodeLemmas.{place_type-is}
use Rattle.hl_values.proofs.forms.compound_code.Goals as goal

pub returns-in_default-operand_type : goal.returns-in_default-operand_type
returns-in_default-operand_type c =
    let place = c.in-Some.ensures in
    let h = c.in_default-operand_type.ensures in
    compound-none_type (production_of c.args.operator) c.args.at c.args.mark c.args.old (plain_code c.args.left) (plain_code c.args.right) (plain_location c.in-Some.to) (plain_ty c.get.result.now.ty) (plain_ty c.ty.result.now) place
    (ap (λ (p : Location). plain_ty p.ty) c.get.ensures ∙ sym (place_type-is c.in-Some.to)) c.ty.ensures h

pub returns-in_default-2 : goal.returns-in_default-2
returns-in_default-2 c =
    let place = c.in-Some.ensures in
    let ty = c.in-Some-operand_type.ensures in
    let h = c.in_ok-value.ensures in
    compound-gone (production_of c.args.operator) c.args.at c.args.mark c.args.old (plain_code c.args.left) (plain_code c.args.right) (plain_location c.in-Some.to) (plain_ty c.get.result.now.ty) (plain_ty c.ty.result.now) (plain_ty c.in-Some-operand_type.common) place
    (ap (λ (p : Location). plain_ty p.ty) c.get.ensures ∙ sym (place_type-is c.in-Some.to)) c.ty.ensures ty
    (gone plain_expr c.in_ok-value.field-0 (converted_code (plain_ty c.in-Some-operand_type.common) (plain_code c.args.right)) c.in_default-2.is h)

pub returns : goal.returns
returns c =
    let place = c.in-Some.ensures in
    let ty = c.in-Some-operand_type.ensures in
    let h = c.in_ok-value.ensures in
    IfOk-weaker c.written.result _ _
    (λ code e. e ∙ compound-done (production_of c.args.operator) c.args.at c.args.mark c.args.old (plain_code c.args.left) (plain_code c.args.right) (plain_location c.in-Some.to) (plain_ty c.get.result.now.ty) (plain_ty c.ty.result.now) (plain_ty c.in-Some-operand_type.common) (plain_expr c.in-Some-2.value) place
    (ap (λ (p : Location). plain_ty p.ty) c.get.ensures ∙ sym (place_type-is c.in-Some.to)) c.ty.ensures ty
    (there plain_expr c.in_ok-value.field-0 c.in-Some-2.value (converted_code (plain_ty c.in-Some-operand_type.common) (plain_code c.args.right)) c.in-Some-2.is h))
    c.written.ensures

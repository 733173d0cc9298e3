use Rattle.std.proofs.Common.{◌∙◌, ap, Some}
use Rattle.std.specs.Option.{option_copied}
use Rattle.std.proofs.lemmas.Result.{IfOk-weaker}
use Rattle.hl_rules.specs.Expressions.{member_code, swizzled_code}
use Rattle.hl_rules.specs.Nodes.{type_of_code}
use Rattle.hl_rules.specs.Operands.{kind_of}
use Rattle.hl_rules.specs.Values.{letters_within, member_number, members_of, operand_of}
use Rattle.hl_values.specs.Basics.{basic_ty}
use Rattle.hl_values.specs.ScopeViews.{scope_of}
use Rattle.hl_values.specs.Views.{plain_code, plain_type_if}
use Rattle.hl_types.specs.Postfix.{struct_number}
use Rattle.hl_types.proofs.DotLemmas.{code-basic, code-other, code-struct}
use Rattle.hl_types.proofs.dots.dotted_into.Goals as goal

pub returns-in-Some : goal.returns-in-Some
returns-in-Some c =
    let s = scope_of c.args.scope.now in
    let code = plain_code c.args.code in
    IfOk-weaker c.member_code.result _ _
    (λ made e. e ∙ (ap (λ n. member_code c.args.at n (plain_type_if (option_copied c.member_type-ty.result)) code) c.member_number-member.ensures ∙
    (ap (λ o. member_code c.args.at (member_number (members_of s c.in-Some.number) c.args.name.now) o code) c.member_type-ty.ensures ∙
    code-struct s c.args.at c.args.name.now (type_of_code code) code c.in-Some.number (c.in-Some.ensures ∙ ap struct_number c.ty.ensures))))
    c.member_code.ensures

pub returns-in_ok-letters-in-Some-of : goal.returns-in_ok-letters-in-Some-of
returns-in_ok-letters-in-Some-of c =
    let s = scope_of c.args.scope.now in
    let code = plain_code c.args.code in
    let h = c.in_ok-letters-in-Some-of.ensures in
    IfOk-weaker c.swizzled_code.result _ _
    (λ made e. e ∙ (ap (λ k. swizzled_code c.args.at k c.in_ok-letters-in-Some-of.letters code) c.kind.ensures ∙
    (ap (λ l. swizzled_code c.args.at (kind_of (basic_ty c.in-Some-of.basic)) l code) (h.letters ∙ ap (λ n. letters_within n c.args.name.now) c.component_count.ensures) ∙
    code-basic s c.args.at c.args.name.now (type_of_code code) (basic_ty c.in-Some-of.basic) code (c.in-Some-of.ensures ∙ ap (λ t. operand_of (Some t)) c.ty-in-None.ensures))))
    c.swizzled_code.ensures

pub returns-in-None-of : goal.returns-in-None-of
returns-in-None-of c =
    let code = plain_code c.args.code in
    code-other (scope_of c.args.scope.now) c.args.at c.args.name.now (type_of_code code) code (c.in-None.ensures ∙ ap struct_number c.ty.ensures) (c.in-None-of.ensures ∙ ap (λ t. operand_of (Some t)) c.ty-in-None.ensures)

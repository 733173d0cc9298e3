use Rattle.std.proofs.Common.{◌∙◌, sym, ap, None}
use Rattle.std.proofs.lemmas.Result.{IfOk-weaker}
use Rattle.hl_meaning.specs.Views.{plain_ty}
use Rattle.hl_rules.specs.Operands.{kind_of}
use Rattle.hl_rules.specs.Values.{dotted_value, letters_within, stepped, swizzle_value, value}
use Rattle.hl_values.specs.Basics.{basic_ty}
use Rattle.hl_values.specs.Known.{known}
use Rattle.hl_values.specs.ScopeViews.{scope_of}
use Rattle.hl_values.specs.Views.{plain_code_if, plain_standing, plain_type_if}
use Rattle.hl_types.proofs.DotLemmas.{value-basic, value-other, value-struct}
use Rattle.hl_types.proofs.dots.dotted_value.Goals as goal

pub returns-in_default : goal.returns-in_default
returns-in_default c =
    c.stepped.ensures ∙
    sym (ap (λ o. known (dotted_value (scope_of c.args.scope.now) c.args.name.now (plain_type_if o) (plain_standing c.args.standing)) None (plain_code_if c.args.code)) c.in_default.is)

pub returns-in-Some-struct_number : goal.returns-in-Some-struct_number
returns-in-Some-struct_number c =
    let s = scope_of c.args.scope.now in
    let standing = plain_standing c.args.standing in
    let code = plain_code_if c.args.code in
    let member = c.in_ok-member-in-Some-struct_number.ensures in
    c.stepped-in-Some-struct_number.ensures ∙
    (ap (λ t. known (value t (stepped standing)) None code) (member ∙ c.member_type.ensures) ∙
    (ap (λ v. known v None code) (value-struct s c.args.name.now (plain_ty c.in-Some.ty) standing c.in-Some-struct_number.number c.in-Some-struct_number.ensures) ∙
    sym (ap (λ o. known (dotted_value s c.args.name.now (plain_type_if o) standing) None code) c.in-Some.is)))

pub returns-in-Some-of : goal.returns-in-Some-of
returns-in-Some-of c =
    let s = scope_of c.args.scope.now in
    let standing = plain_standing c.args.standing in
    let code = plain_code_if c.args.code in
    let own = basic_ty c.in-Some-of.basic in
    let h = c.in_ok-letters-in-Some-of.ensures in
    IfOk-weaker c.swizzle_value.result _ _
    (λ t e. e ∙ (ap (λ k. known (swizzle_value k c.in_ok-letters-in-Some-of.letters standing) None code) c.kind.ensures ∙
    (ap (λ l. known (swizzle_value (kind_of own) l standing) None code) (h.letters ∙ ap (λ n. letters_within n c.args.name.now) c.component_count.ensures) ∙
    (ap (λ v. known v None code) (value-basic s c.args.name.now (plain_ty c.in-Some.ty) own standing c.in-Some-of.ensures) ∙
    sym (ap (λ o. known (dotted_value s c.args.name.now (plain_type_if o) standing) None code) c.in-Some.is)))))
    c.swizzle_value.ensures

pub returns : goal.returns
returns c =
    let s = scope_of c.args.scope.now in
    let standing = plain_standing c.args.standing in
    let code = plain_code_if c.args.code in
    c.stepped-in-None-of.ensures ∙
    (ap (λ v. known v None code) (value-other s c.args.name.now (plain_ty c.in-Some.ty) standing c.in-None.ensures c.in-None-of.ensures) ∙
    sym (ap (λ o. known (dotted_value s c.args.name.now (plain_type_if o) standing) None code) c.in-Some.is))

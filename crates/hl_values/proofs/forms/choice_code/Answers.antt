use Rattle.std.proofs.Common.{◌∙◌, sym, ap, Some}
use Rattle.hl_meaning.specs.declared.ty.Kind.TheVariants.{Bool as BoolKind}
use Rattle.hl_meaning.specs.Types.{with_kind}
use Rattle.hl_meaning.specs.Views.{plain_expr, plain_ty}
use Rattle.hl_rules.specs.Expressions.{choice_code}
use Rattle.hl_rules.specs.Nodes.{converted_code}
use Rattle.hl_values.specs.Views.{plain_code, plain_code_if}
use Rattle.hl_values.proofs.FormLemmas.{choice-done, of_three_codes, there, three-there}
use Rattle.hl_values.proofs.forms.choice_code.Goals as goal

pub returns : goal.returns
returns c =
    let made = c.in_ok-made.ensures in
    let ty = c.in-Some-choice_type.ensures in
    let cond = c.in_ok-cond.ensures in
    let yes' = c.in_ok-yes.ensures in
    let no' = c.in_ok-no.ensures in
    choice-done c.args.at (plain_code c.in-Some.condition) (plain_code c.in-Some-yes.yes) (plain_code c.in-Some-no.no) c.in-Some-choice_type.ty c.in-Some-2.cond c.in-Some-3.yes c.in-Some-4.no (plain_code c.in_ok-made.made)
    (of_three_codes (plain_code c.in-Some.condition) (plain_code c.in-Some-yes.yes) (plain_code c.in-Some-no.no) (plain_ty c.ty.result.now) (plain_ty c.ty-2.result.now) (plain_ty c.ty-3.result.now) (Some (plain_ty c.in-Some-choice_type.ty)) ty c.ty.ensures c.ty-2.ensures c.ty-3.ensures)
    (there plain_expr c.in_ok-cond.field-0 c.in-Some-2.cond (converted_code (with_kind BoolKind (plain_ty c.in-Some-choice_type.ty)) (plain_code c.in-Some.condition)) c.in-Some-2.is cond)
    (there plain_expr c.in_ok-yes.field-0 c.in-Some-3.yes (converted_code (plain_ty c.in-Some-choice_type.ty) (plain_code c.in-Some-yes.yes)) c.in-Some-3.is yes')
    (there plain_expr c.in_ok-no.field-0 c.in-Some-4.no (converted_code (plain_ty c.in-Some-choice_type.ty) (plain_code c.in-Some-no.no)) c.in-Some-4.is no')
    made ∙
    three-there (choice_code c.args.at) (plain_code_if c.args.condition) (plain_code_if c.args.yes) (plain_code_if c.args.no) (plain_code c.in-Some.condition) (plain_code c.in-Some-yes.yes) (plain_code c.in-Some-no.no) (ap (λ o. plain_code_if o) (sym c.in-Some.is)) (ap (λ o. plain_code_if o) (sym c.in-Some-yes.is)) (ap (λ o. plain_code_if o) (sym c.in-Some-no.is))

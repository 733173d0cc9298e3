use Rattle.std.proofs.Common.{◌≡◌, ◌∙◌, sym, ap, true, false}
use Rattle.std.specs.Prelude.{is_some}
use Rattle.hl_meaning.specs.declared.expression.Expr.{Expr}
use Rattle.hl_meaning.specs.Types.{ty_eq}
use Rattle.hl_meaning.specs.Conversions.{converts}
use Rattle.hl_meaning.specs.declared.expression.Form.TheVariants.{Convert}
use Rattle.hl_meaning.specs.Trees.{an_expr}
use Rattle.hl_meaning.specs.Views.{plain_expr, plain_form, plain_ty}
use Rattle.hl_values.proofs.NodeLemmas.{convert-made, convert-none, convert-same}
use Rattle.hl_values.proofs.nodes.converted.Goals as goal

pub returns-then-is_same : goal.returns-then-is_same
returns-then-is_same c =
    let h = c.if-is_same.ensures in
    convert-same c.args.value (plain_ty c.args.ty.now) (ap (λ (v : Expr). ty_eq (plain_ty v.ty) (plain_ty c.args.ty.now)) (sym c.get.ensures) ∙ sym h)

pub returns-then-is_none : goal.returns-then-is_none
returns-then-is_none c =
    let h = c.if-is_none.ensures in
    convert-none c.args.value (plain_ty c.args.ty.now)
    (ap (λ (v : Expr). ty_eq (plain_ty v.ty) (plain_ty c.args.ty.now)) (sym c.get.ensures) ∙ (sym c.is_same.ensures ∙ c.if-is_same.false))
    (ap (λ (v : Expr). converts (plain_ty v.ty) (plain_ty c.args.ty.now)) (sym c.get-2.ensures) ∙ (sym (ap (λ o. is_some o) c.cost.ensures) ∙ h))

pub returns : goal.returns
returns c =
    let h = c.if-is_none.ensures in
    let made = c.in_ok-new.ensures in
    let ty = c.in_ok-ty.ensures in
    convert-made c.in_ok-new.field-0 c.args.value c.in_ok-ty.ty (plain_ty c.args.ty.now)
    (ap plain_expr made ∙ (c.node-made.ensures ∙ ap (λ (v : Expr). an_expr (plain_ty c.in_ok-ty.ty) v.at (plain_form (Convert c.args.value))) c.get-3.ensures)) ty
    (ap (λ (v : Expr). ty_eq (plain_ty v.ty) (plain_ty c.args.ty.now)) (sym c.get.ensures) ∙ (sym c.is_same.ensures ∙ c.if-is_same.false))
    (ap (λ (v : Expr). converts (plain_ty v.ty) (plain_ty c.args.ty.now)) (sym c.get-2.ensures) ∙ (sym (ap (λ o. is_some o) c.cost.ensures) ∙ h))

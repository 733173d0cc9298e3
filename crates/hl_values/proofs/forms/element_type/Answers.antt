use Rattle.std.proofs.Common.{◌∙◌, sym, ap, Some}
use Rattle.hl_meaning.specs.declared.ty.HlType.{HlType}
use Rattle.hl_meaning.specs.Views.{plain_ty}
use Rattle.hl_meaning.proofs.Plain.{plain_ty-Array, plain_ty-Scalar, plain_ty-Vector}
use Rattle.hl_values.specs.Steps.{element_of}
use Rattle.hl_values.proofs.FormLemmas.{element-other}
use Rattle.hl_values.proofs.forms.element_type.Goals as goal

pub returns-in_ok-element-in-Array : goal.returns-in_ok-element-in-Array
returns-in_ok-element-in-Array c =
    let h = c.in_ok-element-in-Array.ensures in
    ap (λ t. Some t) (h ∙ ap (λ (t : HlType). plain_ty t) c.get.ensures) ∙ sym (ap element_of (ap plain_ty c.in-Array.is ∙ plain_ty-Array _ _))

pub returns-in-Vector : goal.returns-in-Vector
returns-in-Vector c = ap (λ t. Some t) (plain_ty-Scalar _) ∙ sym (ap element_of (ap plain_ty c.in-Vector.is ∙ plain_ty-Vector _ _))

pub returns-in_default : goal.returns-in_default
returns-in_default c = element-other c.args.ty.now c.in_default.not-Vector c.in_default.not-Array

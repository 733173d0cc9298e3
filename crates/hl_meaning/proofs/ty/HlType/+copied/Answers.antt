use Rattle.std.proofs.Common.{◌≡◌, ◌∙◌, sym, ap}
use Rattle.hl_meaning.specs.Types.{array_type}
use Rattle.hl_meaning.specs.Views.{plain_ty}
use Rattle.hl_meaning.proofs.Plain.{plain_ty-Array}
use Rattle.hl_meaning.proofs.ty.HlType.+copied.Goals as goal
use Rattle.hl_meaning.proofs.ty.HlType.+copied.Goals.{in-Void, in-Scalar, in-Vector, in-Array+in_ok-element-in-Array+in_ok-new-in-Array, in-Struct}

pub returns : goal.returns
returns t c =
    elim c.match-self.branch [
      | in-Void w ↦ ap plain_ty (w.result-is ∙ sym w.in-Void.is)
      | in-Scalar w ↦ ap plain_ty (w.result-is ∙ sym w.in-Scalar.is)
      | in-Vector w ↦ ap plain_ty (w.result-is ∙ sym w.in-Vector.is)
      | in-Array+in_ok-element-in-Array+in_ok-new-in-Array w ↦
          let inner : plain_ty w.in_ok-element-in-Array.element ≡ plain_ty w.in-Array.element =
          w.in_ok-element-in-Array.ensures ∙ ap plain_ty w.get.ensures in
          ap plain_ty w.result-is ∙ (plain_ty-Array w.in_ok-new-in-Array.field-0 w.in-Array.length ∙
          (ap (λ e. array_type (plain_ty e) w.in-Array.length) w.in_ok-new-in-Array.ensures ∙ (ap (λ e. array_type e w.in-Array.length) inner ∙
          sym (ap plain_ty w.in-Array.is ∙ plain_ty-Array w.in-Array.element w.in-Array.length))))
      | in-Struct w ↦ ap plain_ty (w.result-is ∙ sym w.in-Struct.is)
    ]

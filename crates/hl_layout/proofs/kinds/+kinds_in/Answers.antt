use Rattle.std.proofs.Common.{◌∙◌, sym, ap}
use Rattle.std.proofs.lemmas.Result.{IfOk-weaker}
use Rattle.hl_meaning.specs.Layout.{kinds_in, repeated}
use Rattle.hl_meaning.specs.Views.{plain_ty}
use Rattle.hl_meaning.proofs.Plain.{plain_ty-Array, plain_ty-Scalar, plain_ty-Struct, plain_ty-Vector, plain_ty-Void}
use Rattle.hl_layout.proofs.kinds.+kinds_in.Goals as goal

pub returns-in-Void : goal.returns-in-Void
returns-in-Void t c = c.new.ensures ∙ sym (ap (kinds_in c.args.structs.now) (ap plain_ty c.in-Void.is ∙ plain_ty-Void))

pub returns-in-Scalar : goal.returns-in-Scalar
returns-in-Scalar t c =
    IfOk-weaker c.same.result _ _ (λ kinds e. e ∙ sym (ap (kinds_in c.args.structs.now) (ap plain_ty c.in-Scalar.is ∙ plain_ty-Scalar _))) c.same.ensures

pub returns-in-Vector : goal.returns-in-Vector
returns-in-Vector t c =
    IfOk-weaker c.same-in-Vector.result _ _ (λ kinds e. e ∙ sym (ap (kinds_in c.args.structs.now) (ap plain_ty c.in-Vector.is ∙ plain_ty-Vector _ _))) c.same-in-Vector.ensures

pub returns-in_ok-kinds-in-Array : goal.returns-in_ok-kinds-in-Array
returns-in_ok-kinds-in-Array t c =
    let structs = c.args.structs.now in
    IfOk-weaker c.repeated.result _ _
    (λ all e. e ∙ (ap (repeated c.in-Array.length) (c.as_slice.ensures.value ∙ (c.in_ok-kinds-in-Array.ensures ∙ ap (λ x. kinds_in structs (plain_ty x)) c.get.ensures)) ∙
    sym (ap (kinds_in structs) (ap plain_ty c.in-Array.is ∙ plain_ty-Array c.in-Array.element c.in-Array.length))))
    c.repeated.ensures

pub returns-in-Struct : goal.returns-in-Struct
returns-in-Struct t c =
    IfOk-weaker c.struct_at.result _ _ (λ kinds e. e ∙ sym (ap (kinds_in c.args.structs.now) (ap plain_ty c.in-Struct.is ∙ plain_ty-Struct _))) c.struct_at.ensures

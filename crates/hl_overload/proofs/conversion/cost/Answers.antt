use Rattle.std.proofs.Common.{◌∙◌, sym, ap, None, Some, if◌then◌else◌}
use Rattle.hl_meaning.specs.Conversions.{conversion_cost}
use Rattle.hl_meaning.specs.Types.{ty_eq}
use Rattle.hl_meaning.specs.Views.{plain_ty}
use Rattle.hl_meaning.proofs.Plain.{plain_ty-Array, plain_ty-Scalar, plain_ty-Struct, plain_ty-Vector, plain_ty-Void}
use Rattle.hl_overload.proofs.conversion.cost.Goals as goal

pub returns-in-Void : goal.returns-in-Void
returns-in-Void c = sym (ap (λ t. conversion_cost t (plain_ty c.args.to.now)) (ap plain_ty c.in-Void.is ∙ plain_ty-Void))

pub returns-in-Scalar : goal.returns-in-Scalar
returns-in-Scalar c = c.scalar_cost.ensures ∙ sym (ap (λ t. conversion_cost t (plain_ty c.args.to.now)) (ap plain_ty c.in-Scalar.is ∙ plain_ty-Scalar c.in-Scalar.kind))

pub returns-in-Vector : goal.returns-in-Vector
returns-in-Vector c = c.vector_cost.ensures ∙ sym (ap (λ t. conversion_cost t (plain_ty c.args.to.now)) (ap plain_ty c.in-Vector.is ∙ plain_ty-Vector c.in-Vector.kind c.in-Vector.size))

pub returns-in-Array : goal.returns-in-Array
returns-in-Array c =
    let form = ap plain_ty c.in-Array.is ∙ plain_ty-Array c.in-Array.field-0 c.in-Array.field-1 in
    c.same_cost.ensures ∙ (ap (λ t. if ty_eq t (plain_ty c.args.to.now) then Some 0 else None) form ∙ sym (ap (λ t. conversion_cost t (plain_ty c.args.to.now)) form))

pub returns-in-Struct : goal.returns-in-Struct
returns-in-Struct c =
    let form = ap plain_ty c.in-Struct.is ∙ plain_ty-Struct c.in-Struct.field-0 in
    c.same_cost-in-Struct.ensures ∙ (ap (λ t. if ty_eq t (plain_ty c.args.to.now) then Some 0 else None) form ∙ sym (ap (λ t. conversion_cost t (plain_ty c.args.to.now)) form))

use Rattle.std.proofs.Common.{◌∙◌, Some, sym, ap}
use Rattle.hl_meaning.specs.Views.{plain_ty}
use Rattle.hl_meaning.proofs.Plain.{plain_ty-Array, plain_ty-Scalar, plain_ty-Struct, plain_ty-Vector, plain_ty-Void}
use Rattle.hl_rules.specs.Declarations.{is_number_type}
use Rattle.hl_types.proofs.constant_words.is_number.Goals as goal

pub returns-in-Void : goal.returns-in-Void
returns-in-Void c = sym (ap (λ t. is_number_type (Some t)) (ap plain_ty c.in-Void.is ∙ plain_ty-Void))

pub returns-in-Scalar : goal.returns-in-Scalar
returns-in-Scalar c = c.is_number_kind.ensures ∙ sym (ap (λ t. is_number_type (Some t)) (ap plain_ty c.in-Scalar.is ∙ plain_ty-Scalar _))

pub returns-in-Vector : goal.returns-in-Vector
returns-in-Vector c = sym (ap (λ t. is_number_type (Some t)) (ap plain_ty c.in-Vector.is ∙ plain_ty-Vector _ _))

pub returns-in-Array : goal.returns-in-Array
returns-in-Array c = sym (ap (λ t. is_number_type (Some t)) (ap plain_ty c.in-Array.is ∙ plain_ty-Array _ _))

pub returns-in-Struct : goal.returns-in-Struct
returns-in-Struct c = sym (ap (λ t. is_number_type (Some t)) (ap plain_ty c.in-Struct.is ∙ plain_ty-Struct _))

use Rattle.std.proofs.Common.{◌∙◌, ap, sym}
use Rattle.hl_source.specs.Operations.{component_kind}
use Rattle.hl_meaning.specs.Views.{plain_ty}
use Rattle.hl_meaning.proofs.Plain.{plain_ty-Scalar, plain_ty-Vector}
use Rattle.hl_interpreter.proofs.HeldTypes.{component_kind-other}
use Rattle.hl_interpreter.proofs.operations.component_kind.Goals as goal

pub returns-in-Scalar : goal.returns-in-Scalar
returns-in-Scalar c = sym (ap component_kind (ap plain_ty c.in-Scalar.is ∙ plain_ty-Scalar _))

pub returns-in-Vector : goal.returns-in-Vector
returns-in-Vector c = sym (ap component_kind (ap plain_ty c.in-Vector.is ∙ plain_ty-Vector _ _))

pub returns-in_default : goal.returns-in_default
returns-in_default c = sym (component_kind-other c.args.ty.now c.in_default.not-Scalar c.in_default.not-Vector)

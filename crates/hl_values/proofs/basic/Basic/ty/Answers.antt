use Rattle.std.proofs.Common.{◌∙◌, sym, ap}
use Rattle.hl_meaning.proofs.Plain.{plain_ty-Scalar, plain_ty-Vector}
use Rattle.hl_values.specs.Basics.{basic_ty}
use Rattle.hl_values.proofs.basic.Basic.ty.Goals as goal

pub returns-in-Scalar : goal.returns-in-Scalar
returns-in-Scalar c = plain_ty-Scalar _ ∙ ap basic_ty (sym c.in-Scalar.is)

pub returns-in-Vector : goal.returns-in-Vector
returns-in-Vector c = plain_ty-Vector _ _ ∙ ap basic_ty (sym c.in-Vector.is)

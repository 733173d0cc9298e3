use Rattle.std.proofs.Common.{◌∙◌, refl, sym, ap, false}
use Rattle.hl_meaning.specs.Types.{is_of}
use Rattle.hl_meaning.specs.Views.{plain_ty}
use Rattle.hl_meaning.proofs.Plain.{plain_ty-Scalar, plain_ty-Vector}
use Rattle.hl_values.proofs.BasicLemmas.{other_than_basic}
use Rattle.hl_values.proofs.basic.is_of.Goals as goal

pub returns-in-Scalar : goal.returns-in-Scalar
returns-in-Scalar c = c.is_same.ensures ∙ sym (ap (is_of c.args.kind) (ap plain_ty c.in-Scalar.is ∙ plain_ty-Scalar _))

pub returns-in-Vector : goal.returns-in-Vector
returns-in-Vector c = c.is_same-in-Vector.ensures ∙ sym (ap (is_of c.args.kind) (ap plain_ty c.in-Vector.is ∙ plain_ty-Vector _ _))

pub returns-in_default : goal.returns-in_default
returns-in_default c = sym (other_than_basic (is_of c.args.kind) false refl (λ e n. refl) (λ n. refl) c.args.ty.now c.in_default.not-Scalar c.in_default.not-Vector)

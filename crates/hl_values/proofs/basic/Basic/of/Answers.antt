use Rattle.std.proofs.Common.{◌∙◌, refl, sym, ap, None, Some}
use Rattle.hl_meaning.specs.Views.{plain_ty}
use Rattle.hl_meaning.proofs.Plain.{plain_ty-Scalar, plain_ty-Vector}
use Rattle.hl_rules.specs.Values.{operand_of}
use Rattle.hl_values.proofs.BasicLemmas.{other_than_basic}
use Rattle.hl_values.proofs.basic.Basic.of.Goals as goal

pub returns-in-Scalar : goal.returns-in-Scalar
returns-in-Scalar c = sym (ap (λ t. operand_of (Some t)) (ap plain_ty c.in-Scalar.is ∙ plain_ty-Scalar _))

pub returns-in-Vector : goal.returns-in-Vector
returns-in-Vector c = sym (ap (λ t. operand_of (Some t)) (ap plain_ty c.in-Vector.is ∙ plain_ty-Vector _ _))

pub returns-in_default : goal.returns-in_default
returns-in_default c = sym (other_than_basic (λ t. operand_of (Some t)) None refl (λ e n. refl) (λ n. refl) c.args.ty.now c.in_default.not-Scalar c.in_default.not-Vector)

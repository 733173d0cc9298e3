use Rattle.std.proofs.Common.{◌∙◌, refl, sym, ap}
use Rattle.hl_meaning.specs.declared.ty.Kind.TheVariants.{Int}
use Rattle.hl_rules.specs.Operands.{kind_of}
use Rattle.hl_meaning.specs.Views.{plain_ty}
use Rattle.hl_meaning.proofs.Plain.{plain_ty-Scalar, plain_ty-Vector}
use Rattle.hl_values.proofs.BasicLemmas.{other_than_basic}
use Rattle.hl_values.proofs.basic.kind_of.Goals as goal

pub returns-in-Scalar : goal.returns-in-Scalar
returns-in-Scalar c = sym (ap kind_of (ap plain_ty c.in-Scalar.is ∙ plain_ty-Scalar _))

pub returns-in-Vector : goal.returns-in-Vector
returns-in-Vector c = sym (ap kind_of (ap plain_ty c.in-Vector.is ∙ plain_ty-Vector _ _))

pub returns-in_default : goal.returns-in_default
returns-in_default c = sym (other_than_basic kind_of Int refl (λ e n. refl) (λ n. refl) c.args.ty.now c.in_default.not-Scalar c.in_default.not-Vector)

use Rattle.std.proofs.Common.{◌∙◌, refl, sym, ap, false}
use Rattle.hl_meaning.specs.Types.{is_scalar}
use Rattle.hl_meaning.specs.Views.{plain_ty}
use Rattle.hl_meaning.proofs.Plain.{plain_ty-Scalar}
use Rattle.hl_values.proofs.BasicLemmas.{other_than_scalar}
use Rattle.hl_values.proofs.basic.is_scalar.Goals as goal

pub returns-in-Scalar : goal.returns-in-Scalar
returns-in-Scalar c = sym (ap is_scalar (ap plain_ty c.in-Scalar.is ∙ plain_ty-Scalar _))

pub returns-in_default : goal.returns-in_default
returns-in_default c = sym (other_than_scalar is_scalar false refl (λ k n. refl) (λ e n. refl) (λ n. refl) c.args.ty.now c.in_default.not-Scalar)

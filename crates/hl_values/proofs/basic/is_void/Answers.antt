use Rattle.std.proofs.Common.{◌∙◌, refl, sym, subst, ap, ◌≡◌, false}
use Rattle.hl_meaning.specs.Types.{is_void}
use Rattle.hl_meaning.specs.Views.{plain_ty}
use Rattle.hl_meaning.proofs.Plain.{plain_ty-Void}
use Rattle.hl_values.proofs.BasicLemmas.{other_than_void}
use Rattle.hl_values.proofs.basic.is_void.Goals as goal

pub returns-in-Void : goal.returns-in-Void
returns-in-Void c = sym (ap is_void (ap plain_ty c.in-Void.is ∙ plain_ty-Void))

pub returns-in_default : goal.returns-in_default
returns-in_default c = sym (other_than_void (λ t. is_void t ≡ false) (λ k. refl) (λ k n. refl) (λ e n. refl) (λ n. refl) c.args.ty.now c.in_default.not-Void)

use Rattle.std.proofs.Common.{◌∙◌, refl, sym, ap}
use Rattle.std.proofs.lemmas.Result.{IfOk-weaker}
use Rattle.hl_meaning.specs.Types.{with_kind}
use Rattle.hl_meaning.specs.Views.{plain_ty}
use Rattle.hl_meaning.proofs.Plain.{plain_ty-Scalar, plain_ty-Vector}
use Rattle.hl_values.proofs.BasicLemmas.{with_kind-other}
use Rattle.hl_values.proofs.basic.with_kind.Goals as goal

pub returns-in-Scalar : goal.returns-in-Scalar
returns-in-Scalar c = plain_ty-Scalar _ ∙ sym (ap (with_kind c.args.kind) (ap plain_ty c.in-Scalar.is ∙ plain_ty-Scalar _))

pub returns-in-Vector : goal.returns-in-Vector
returns-in-Vector c = plain_ty-Vector _ _ ∙ sym (ap (with_kind c.args.kind) (ap plain_ty c.in-Vector.is ∙ plain_ty-Vector _ _))

pub returns-in_default : goal.returns-in_default
returns-in_default c = IfOk-weaker c.copied.result _ _ (λ own e. e ∙ sym (with_kind-other c.args.kind c.args.ty.now c.in_default.not-Scalar c.in_default.not-Vector)) c.copied.ensures

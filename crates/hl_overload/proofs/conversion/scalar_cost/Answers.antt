use Rattle.std.proofs.Common.{◌∙◌, ◌+◌, sym, ap, Some}
use Rattle.hl_meaning.specs.Conversions.{conversion_cost}
use Rattle.hl_meaning.specs.Types.{scalar_type}
use Rattle.hl_meaning.specs.Views.{plain_ty}
use Rattle.hl_meaning.proofs.Plain.{plain_ty-Scalar, plain_ty-Vector}
use Rattle.hl_overload.proofs.CostLemmas.{scalar_cost-other}
use Rattle.hl_overload.proofs.conversion.scalar_cost.Goals as goal

pub returns-in-Scalar : goal.returns-in-Scalar
returns-in-Scalar c =
    ap (λ n. Some n) c.kind_cost.ensures ∙ sym (ap (conversion_cost (scalar_type c.args.from)) (ap plain_ty c.in-Scalar.is ∙ plain_ty-Scalar c.in-Scalar.kind))

pub returns-in-Vector : goal.returns-in-Vector
returns-in-Vector c =
    ap (λ n. Some (n + 4)) c.kind_cost-in-Vector.ensures ∙ sym (ap (conversion_cost (scalar_type c.args.from)) (ap plain_ty c.in-Vector.is ∙ plain_ty-Vector c.in-Vector.kind c.in-Vector.field-1))

pub returns-in_default : goal.returns-in_default
returns-in_default c = sym (scalar_cost-other c.args.from c.args.to.now c.in_default.not-Scalar c.in_default.not-Vector)

use Rattle.std.proofs.Common.{◌∙◌, ◌+◌, sym, ap, Some}
use Rattle.hl_meaning.specs.Conversions.{conversion_cost}
use Rattle.hl_meaning.specs.Types.{vector_type}
use Rattle.hl_meaning.specs.Views.{plain_ty}
use Rattle.hl_meaning.proofs.Plain.{plain_ty-Scalar, plain_ty-Vector}
use Rattle.hl_overload.proofs.CostLemmas.{vector_cost-longer, vector_cost-other, vector_cost-same, vector_cost-shorter}
use Rattle.hl_overload.proofs.conversion.vector_cost.Goals as goal

pub returns-in-Scalar : goal.returns-in-Scalar
returns-in-Scalar c =
    ap (λ n. Some (n + 8)) c.kind_cost.ensures ∙ sym (ap (conversion_cost (vector_type c.args.from c.args.size)) (ap plain_ty c.in-Scalar.is ∙ plain_ty-Scalar c.in-Scalar.kind))

pub returns-then-size-length : goal.returns-then-size-length
returns-then-size-length c =
    ap (λ n. Some n) c.kind_cost-then-size-length.ensures ∙
    sym (ap (conversion_cost (vector_type c.args.from c.args.size)) (ap plain_ty c.in-Vector.is ∙ plain_ty-Vector c.in-Vector.kind c.in-Vector.length) ∙
    vector_cost-same c.args.from c.in-Vector.kind c.args.size c.in-Vector.length c.if-size-length.true)

pub returns-then-length-size : goal.returns-then-length-size
returns-then-length-size c =
    ap (λ n. Some (n + 8)) c.kind_cost-then-length-size.ensures ∙
    sym (ap (conversion_cost (vector_type c.args.from c.args.size)) (ap plain_ty c.in-Vector.is ∙ plain_ty-Vector c.in-Vector.kind c.in-Vector.length) ∙
    vector_cost-shorter c.args.from c.in-Vector.kind c.args.size c.in-Vector.length c.if-length-size.true)

pub returns-else-length-size : goal.returns-else-length-size
returns-else-length-size c =
    sym (ap (conversion_cost (vector_type c.args.from c.args.size)) (ap plain_ty c.in-Vector.is ∙ plain_ty-Vector c.in-Vector.kind c.in-Vector.length) ∙
    vector_cost-longer c.args.from c.in-Vector.kind c.args.size c.in-Vector.length c.if-size-length.false c.if-length-size.false)

pub returns-in_default : goal.returns-in_default
returns-in_default c = sym (vector_cost-other c.args.from c.args.size c.args.to.now c.in_default.not-Scalar c.in_default.not-Vector)

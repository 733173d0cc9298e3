use Rattle.std.proofs.Common.{◌∙◌, sym, ap, Some}
use Rattle.hl_meaning.specs.Views.{plain_ty}
use Rattle.hl_meaning.proofs.Plain.{plain_ty-Array, plain_ty-Vector}
use Rattle.hl_types.specs.Postfix.{element_count}
use Rattle.hl_types.proofs.IndexLemmas.{count-other}
use Rattle.hl_types.proofs.indexes.element_count.Goals as goal

pub returns-in-Array : goal.returns-in-Array
returns-in-Array c = sym (ap element_count (ap plain_ty c.in-Array.is ∙ plain_ty-Array _ _))

pub returns-in-Vector : goal.returns-in-Vector
returns-in-Vector c = ap (λ n. Some n) c.from.ensures ∙ sym (ap element_count (ap plain_ty c.in-Vector.is ∙ plain_ty-Vector _ _))

pub returns-in_default : goal.returns-in_default
returns-in_default c = count-other c.args.ty.now c.in_default.not-Array c.in_default.not-Vector

use Rattle.std.proofs.Common.{◌∙◌, ap, sym}
use Rattle.hl_meaning.specs.Views.{plain_part}
use Rattle.hl_meaning.proofs.Plain.{plain_part-Index, plain_part-Member, plain_part-Swizzle}
use Rattle.hl_interpreter.specs.HeldPlaces.{index_count}
use Rattle.hl_interpreter.proofs.places.index_count.Goals as goal

pub returns-in-Index-clause-value : goal.returns-in-Index-clause-value
returns-in-Index-clause-value c = sym (ap index_count (ap plain_part c.in-Index.is ∙ plain_part-Index _))

pub returns-in-Member-clause-value : goal.returns-in-Member-clause-value
returns-in-Member-clause-value c = sym (ap index_count (ap plain_part c.in-Member.is ∙ plain_part-Member _))

pub returns-in-Swizzle-clause-value : goal.returns-in-Swizzle-clause-value
returns-in-Swizzle-clause-value c = sym (ap index_count (ap plain_part c.in-Swizzle.is ∙ plain_part-Swizzle _))

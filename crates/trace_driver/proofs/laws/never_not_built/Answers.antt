use Rattle.trace_driver.proofs.Told.{built}
use Rattle.trace_driver.proofs.laws.never_not_built.Goals as goal

pub returns : goal.returns
returns c = λ request text h. built text request.entry h.fault h.is_fault h.answer

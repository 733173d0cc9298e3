use Rattle.bc_stream.proofs.SpellingLaw.{one_fault}
use Rattle.bc_stream.proofs.laws.one_fault.Goals as goal

pub returns : goal.returns
returns c = one_fault

use Rattle.bc_stream.proofs.SpellingLaw.{no_fault}
use Rattle.bc_stream.proofs.laws.no_fault_in_a_spelling.Goals as goal

pub returns : goal.returns
returns c = no_fault

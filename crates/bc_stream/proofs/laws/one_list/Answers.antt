use Rattle.bc_stream.proofs.SpellingLaw.{one_list}
use Rattle.bc_stream.proofs.laws.one_list.Goals as goal

pub returns : goal.returns
returns c = one_list

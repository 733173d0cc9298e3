use Rattle.hl_rules.proofs.FirstLemmas.{at_most_one_first}
use Rattle.hl_rules.proofs.laws.at_most_one_first.Goals as goal

pub returns : goal.returns
returns c = at_most_one_first

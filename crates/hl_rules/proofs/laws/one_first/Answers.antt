use Rattle.hl_rules.proofs.Gathering.{one_first}
use Rattle.hl_rules.proofs.laws.one_first.Goals as goal

pub returns : goal.returns
returns c = one_first

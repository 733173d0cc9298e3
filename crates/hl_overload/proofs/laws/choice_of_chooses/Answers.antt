use Rattle.hl_overload.proofs.Computed.{choice_of-chooses}
use Rattle.hl_overload.proofs.laws.choice_of_chooses.Goals as goal

pub returns : goal.returns
returns c = choice_of-chooses

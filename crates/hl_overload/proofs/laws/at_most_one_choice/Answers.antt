use Rattle.hl_overload.proofs.OneChoice.{one_choice}
use Rattle.hl_overload.proofs.laws.at_most_one_choice.Goals as goal

pub returns : goal.returns
returns c = one_choice

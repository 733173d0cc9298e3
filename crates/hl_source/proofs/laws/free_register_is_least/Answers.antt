use Rattle.hl_source.proofs.LeastFree as least
use Rattle.hl_source.proofs.laws.free_register_is_least.Goals as goal

pub returns : goal.returns
returns c = least.free_register_is_least

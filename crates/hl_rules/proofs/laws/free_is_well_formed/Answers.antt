use Rattle.hl_rules.proofs.WholePrograms.{free_is_well_formed}
use Rattle.hl_rules.proofs.laws.free_is_well_formed.Goals as goal

pub returns : goal.returns
returns c = free_is_well_formed

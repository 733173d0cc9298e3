use Rattle.hl_rules.proofs.FirstLemmas.{no_program}
use Rattle.hl_rules.proofs.laws.no_program.Goals as goal

pub returns : goal.returns
returns c = no_program

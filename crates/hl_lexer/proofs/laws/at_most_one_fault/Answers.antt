use Rattle.hl_lexer.proofs.LawFacts.{at_most_one_fault}
use Rattle.hl_lexer.proofs.laws.at_most_one_fault.Goals as goal

pub returns : goal.returns
returns c = at_most_one_fault

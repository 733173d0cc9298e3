use Rattle.hl_lexer.proofs.LawFacts.{fault_has_no_token_list}
use Rattle.hl_lexer.proofs.laws.fault_has_no_token_list.Goals as goal

pub returns : goal.returns
returns c = fault_has_no_token_list

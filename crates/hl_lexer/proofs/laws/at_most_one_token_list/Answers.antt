use Rattle.hl_lexer.proofs.LawFacts.{at_most_one_token_list}
use Rattle.hl_lexer.proofs.laws.at_most_one_token_list.Goals as goal

pub returns : goal.returns
returns c = at_most_one_token_list

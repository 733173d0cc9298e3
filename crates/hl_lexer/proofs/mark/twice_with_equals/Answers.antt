use Rattle.hl_lexer.proofs.MarkFacts.{twice_with_equals_is}
use Rattle.hl_lexer.proofs.mark.twice_with_equals.Goals as goal

pub returns : goal.returns
returns c = twice_with_equals_is c.args.single c.requires

use Rattle.hl_lexer.proofs.MarkFacts.{twice_is}
use Rattle.hl_lexer.proofs.mark.twice_of.Goals as goal

pub returns : goal.returns
returns c = twice_is c.args.single c.requires

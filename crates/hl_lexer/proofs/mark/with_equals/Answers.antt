use Rattle.hl_lexer.proofs.MarkFacts.{with_equals_is}
use Rattle.hl_lexer.proofs.mark.with_equals.Goals as goal

pub returns : goal.returns
returns c = with_equals_is c.args.single c.requires

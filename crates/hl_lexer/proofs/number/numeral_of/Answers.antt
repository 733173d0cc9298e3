use Rattle.hl_lexer.proofs.ValueFacts.{no_numeral, some_numeral}
use Rattle.hl_lexer.proofs.number.numeral_of.Goals as goal

pub returns-in-Some : goal.returns-in-Some
returns-in-Some c = some_numeral c.args.text.now c.split_suffix-unsigned.result.0.now c.split_suffix-unsigned.result.1 c.in-Some.value c.split_suffix-unsigned.ensures c.in-Some.ensures

pub returns-in-None : goal.returns-in-None
returns-in-None c = no_numeral c.args.text.now c.split_suffix-unsigned.result.0.now c.split_suffix-unsigned.result.1 c.split_suffix-unsigned.ensures c.in-None.ensures

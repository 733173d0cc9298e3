use Rattle.hl_lexer.proofs.AnswerFacts.{gives_fault, gives_tokens}
use Rattle.hl_lexer.proofs.PartFacts.{parts_of_answer}
use Rattle.hl_lexer.proofs.reader.lex.Goals as goal

pub returns-clause-every_list : goal.returns-clause-every_list
returns-clause-every_list c = λ tokens end list few.
    gives_tokens c.args.text.now c.read.result tokens end c.read.ensures.tokens c.read.ensures.fault list few

pub returns-clause-every_fault : goal.returns-clause-every_fault
returns-clause-every_fault c = λ fault first.
    gives_fault c.args.text.now c.read.result fault c.read.ensures.tokens c.read.ensures.limit c.read.ensures.fault first

pub returns-clause-parts : goal.returns-clause-parts
returns-clause-parts c = parts_of_answer c.args.text.now c.read.result c.read.ensures.tokens

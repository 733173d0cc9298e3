use Rattle.hl_lexer.proofs.FrontFacts.{RunIs, large_number, no_number, number_token}
use Rattle.hl_lexer.proofs.front.number.Goals as goal
use Rattle.hl_lexer.proofs.front.number.Goals.{After-word_length-length}

-- the run at the front
run : (c : After-word_length-length) → RunIs c.args.rest.now c.word_length-length.result
run c = record { within = c.word_length-length.ensures.within; run = c.word_length-length.ensures.run; end = c.word_length-length.ensures.end }

pub returns-in-Some : goal.returns-in-Some
returns-in-Some c =
    let found = c.in-Some.ensures in
    number_token c.args.rest.now c.word_length-length.result c.in-Some.numeral.value found.0 c.in-Some.numeral.unsigned c.requires.some c.requires.class
    (run (goal.at.returns-in-Some c).After-word_length-length)
    found.1
    found.2
    c.if-numeral-lt-TOO_LARGE.true

pub returns-in-Some-2 : goal.returns-in-Some-2
returns-in-Some-2 c =
    let found = c.in-Some.ensures in
    large_number c.args.rest.now c.word_length-length.result c.in-Some.numeral.value found.0 c.in-Some.numeral.unsigned c.requires.some c.requires.class
    (run (goal.at.returns-in-Some-2 c).After-word_length-length)
    found.1
    found.2
    c.if-numeral-lt-TOO_LARGE.false

pub returns-in-None : goal.returns-in-None
returns-in-None c =
    no_number c.args.rest.now c.word_length-length.result c.requires.some c.requires.class
    (run (goal.at.returns-in-None c).After-word_length-length)
    c.in-None.ensures

use Rattle.hl_lexer.proofs.FrontFacts.{RunIs, name_token, word_token}
use Rattle.hl_lexer.proofs.front.name.Goals as goal
use Rattle.hl_lexer.proofs.front.name.Goals.{After-word_length-length}

-- the run at the front
run : (c : After-word_length-length) → RunIs c.args.rest.now c.word_length-length.result
run c = record { within = c.word_length-length.ensures.within; run = c.word_length-length.ensures.run; end = c.word_length-length.ensures.end }

pub returns-in-Some : goal.returns-in-Some
returns-in-Some c =
    word_token c.args.rest.now c.word_length-length.result c.in-Some.number c.requires.some c.requires.class
    (run (goal.at.returns-in-Some c).After-word_length-length)
    c.in-Some.ensures

pub returns-in-None : goal.returns-in-None
returns-in-None c =
    name_token c.args.rest.now c.word_length-length.result c.requires.some c.requires.class
    (run (goal.at.returns-in-None c).After-word_length-length)
    c.in-None.ensures

use Rattle.hl_lexer.proofs.FrontFacts.{mark_token}
use Rattle.hl_lexer.proofs.front.mark.Goals as goal

pub returns : goal.returns
returns c =
    mark_token c.args.rest.now c.args.single c.longest_mark-found.result.number c.longest_mark-found.result.length
    c.requires.some
    c.requires.class
    c.requires.no_comment
    c.longest_mark-found.ensures.within
    c.longest_mark-found.ensures.mark
    c.longest_mark-found.ensures.longest

use Rattle.std.proofs.Common.{sym}
use Rattle.hl_lexer.proofs.FrontFacts.{byte_space, comment_nothing, other_nothing}
use Rattle.hl_lexer.proofs.front.front_of.Goals as goal

pub returns-in-Space : goal.returns-in-Space
returns-in-Space c = byte_space c.args.rest.now c.requires (sym c.in-Space.ensures)

pub returns-in-Unclosed : goal.returns-in-Unclosed
returns-in-Unclosed c = (c.in-Unclosed.ensures.1, comment_nothing c.args.rest.now c.in-Unclosed.ensures.0)

pub returns-in-Other : goal.returns-in-Other
returns-in-Other c = other_nothing c.args.rest.now c.requires (sym c.in-Other.ensures)

use Rattle.std.proofs.Common.{◌∙◌, ap}
use Rattle.hl_meaning.specs.Views.{plain_stmt}
use Rattle.hl_inline.specs.Marking.{counts_of}
use Rattle.hl_inline.proofs.NotedUses.{declares-none, declares-some}
use Rattle.hl_inline.proofs.undeclared_uses.undeclare_by.Goals as goal

pub returns-in-Some : goal.returns-in-Some
returns-in-Some c = λ size known is.
    c.undeclare.ensures size known (is ∙ ap (counts_of size) (declares-some known (plain_stmt c.args.stmt.now) c.in-Some.variable c.in-Some.ensures))

pub returns-in-None : goal.returns-in-None
returns-in-None c = λ size known is. is ∙ ap (counts_of size) (declares-none known (plain_stmt c.args.stmt.now) c.in-None.ensures)

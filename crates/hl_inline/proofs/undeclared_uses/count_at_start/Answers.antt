use Rattle.hl_inline.proofs.NotedUses.{start-past, start-within}
use Rattle.hl_inline.proofs.undeclared_uses.count_at_start.Goals as goal

pub returns-then-number-parameters : goal.returns-then-number-parameters
returns-then-number-parameters c = start-within c.args.parameters c.args.number c.if-number-parameters.true

pub returns-else-number-parameters : goal.returns-else-number-parameters
returns-else-number-parameters c = start-past c.args.parameters c.args.number c.if-number-parameters.false

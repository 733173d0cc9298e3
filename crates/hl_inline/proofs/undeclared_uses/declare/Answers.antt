use Rattle.hl_inline.proofs.Marks.{declared-more, declared-past}
use Rattle.hl_inline.proofs.undeclared_uses.declare.Goals as goal

pub returns-else-count : goal.returns-else-count
returns-else-count c = λ size known is. declared-more size c.args.declared.now known c.args.variable is c.if-number-declared.true

pub returns-else-number-declared : goal.returns-else-number-declared
returns-else-number-declared c = λ size known is. declared-past size c.args.declared.now known c.args.variable is c.if-number-declared.false

use Rattle.std.proofs.Common.{arith}
use Rattle.hl_inline.proofs.Marks.{declared-fewer, declared-some, undeclared-past}
use Rattle.hl_inline.proofs.undeclared_uses.undeclare.Goals as goal
use Rattle.hl_inline.proofs.undeclared_uses.undeclare.Goals.{else-number-declared-via-else-number-declared, else-number-declared-via-then-number-declared+else-declared-number-gt0}

pub returns-then-declared-number-gt0 : goal.returns-then-declared-number-gt0
returns-then-declared-number-gt0 c = λ size known is. declared-fewer size c.args.declared.now known c.args.variable is c.if-number-declared.true

pub returns-else-number-declared : goal.returns-else-number-declared
returns-else-number-declared c = λ size known is.
    elim c.else-number-declared.branch [
      | else-number-declared-via-then-number-declared+else-declared-number-gt0 w ↦
          absurd (omega (arith, declared-some size c.args.declared.now known c.args.variable is w.if-number-declared.true, w.if-declared-number-gt0.false))
      | else-number-declared-via-else-number-declared w ↦ undeclared-past size c.args.declared.now known c.args.variable is w.if-number-declared.false
    ]

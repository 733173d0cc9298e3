use Rattle.hl_inline.proofs.FormCases.{expr-call, expr-no_call}
use Rattle.hl_inline.proofs.bodies.is_call.Goals as goal

pub returns-in-Call : goal.returns-in-Call
returns-in-Call c = expr-call c.args.expr.now c.in-Call.function c.in-Call.args c.in-Call.is

pub returns-in_default : goal.returns-in_default
returns-in_default c = expr-no_call c.args.expr.now c.in_default.not-Call

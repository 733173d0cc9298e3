use Rattle.std.proofs.Common.{refl}
use Rattle.hl_inline.proofs.Growing.{nameless-end, nameless-next, none-yet}
use Rattle.hl_inline.proofs.fresh.Fresh.add_nameless.Goals as goal

pub loop-variable-init : goal.loop-variable-init
loop-variable-init c = none-yet c.args.self.now

pub loop-variable-preserved : goal.loop-variable-preserved
loop-variable-preserved c =
    nameless-next c.args.self.now c.loop-variable.self c.add_unnamed.new.self c.args.variables.now c.loop-variable.variable-index c.variable-item.result
    c.loop-variable-test.true c.variable-item.is c.loop-variable.invariant c.in_ok-add_unnamed.ensures

pub returns : goal.returns
returns c = nameless-end c.args.self.now c.loop-variable.self c.args.variables.now c.loop-variable.variable-index c.loop-variable-test.false c.loop-variable.invariant

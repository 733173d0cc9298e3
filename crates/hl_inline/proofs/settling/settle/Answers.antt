use Rattle.std.proofs.lemmas.Result.{IfOk-weaker}
use Rattle.hl_meaning.specs.Views.{plain_expr}
use Rattle.hl_inline.specs.Building.{plain_code, plain_fresh}
use Rattle.hl_inline.proofs.Settled.{not-false, not-true, settled-fixed, settled-last, settled-saved}
use Rattle.hl_inline.proofs.settling.settle.Goals as goal
use Rattle.hl_inline.proofs.settling.settle.Goals.{else-further-via-else-further, else-further-via-then-further+else-not-emitted}

pub returns-then-not-emitted : goal.returns-then-not-emitted
returns-then-not-emitted c =
    let emitted = c.args.emitted in
    IfOk-weaker c.save.result _ _
    (λ read e. settled-saved c.args.further emitted.fixed (plain_code c.args.code.now) (plain_expr emitted.value) (plain_fresh c.args.fresh.now) _ c.if-further.true (not-true emitted.fixed c.if-not-emitted.true) e)
    c.save.ensures

pub returns : goal.returns
returns c =
    let emitted = c.args.emitted in
    let code = plain_code c.args.code.now in
    let value = plain_expr emitted.value in
    let fresh = plain_fresh c.args.fresh.now in
    elim c.else-further.branch [
      | else-further-via-then-further+else-not-emitted w ↦ settled-fixed c.args.further emitted.fixed code value fresh (not-false emitted.fixed w.if-not-emitted.false)
      | else-further-via-else-further w ↦ settled-last c.args.further emitted.fixed code value fresh w.if-further.false
    ]

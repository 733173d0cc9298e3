use Rattle.std.proofs.Common.{◌∙◌, ◌++◌, ap}
use Rattle.hl_layout.proofs.Parts.{repeated-next}
use Rattle.hl_layout.proofs.kinds.repeated.Goals as goal

pub loop-turn-preserved : goal.loop-turn-preserved
loop-turn-preserved c =
    c.in_ok-extend_from_slice.ensures.ok ∙ (ap (λ l. l ++ c.args.kinds.now) c.loop-turn.invariant ∙ repeated-next c.loop-turn._turn c.args.kinds.now)

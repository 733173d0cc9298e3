use Rattle.hl_types.proofs.ListingLemmas.{added-next}
use Rattle.hl_types.proofs.kinds.add.Goals as goal

pub loop-turn-preserved : goal.loop-turn-preserved
loop-turn-preserved c = added-next c.args.kinds.now c.loop-turn.kinds c.push.new.self c.loop-turn._turn c.args.kind c.loop-turn.invariant c.in_ok-push.ensures.ok

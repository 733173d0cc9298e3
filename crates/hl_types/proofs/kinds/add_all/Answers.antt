use Rattle.hl_types.proofs.ListingLemmas.{repeat-next}
use Rattle.hl_types.proofs.kinds.add_all.Goals as goal

pub loop-turn-preserved : goal.loop-turn-preserved
loop-turn-preserved c =
    repeat-next c.args.kinds.now c.loop-turn.kinds c.extend_from_slice.new.self c.args.part.now c.loop-turn._turn c.loop-turn.invariant c.in_ok-extend_from_slice.ensures.ok

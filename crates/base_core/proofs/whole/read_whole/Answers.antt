-- A piece that was taken is a front of what was left, also where the reading stops then.
use Rattle.base_core.proofs.Pieces.{taken_more}
use Rattle.base_core.proofs.whole.read_whole.Goals as goal

pub returns-then-count-limit-clause-front : goal.returns-then-count-limit-clause-front
returns-then-count-limit-clause-front g c =
    taken_more _ _ _ c.pieces.bytes _ c.in_ok-count.count _ _ _ c.pieces.invariant.consumed c.in_ok-count.ensures.bytes.0
    c.in_ok-count.ensures.within.0 c.pieces.invariant.counted c.in_ok-count.ensures.counted

pub returns-in_err-extend_from_slice-clause-front :
    goal.returns-in_err-extend_from_slice-clause-front
returns-in_err-extend_from_slice-clause-front g c =
    taken_more _ _ _ c.pieces.bytes _ c.in_ok-count.count _ _ _ c.pieces.invariant.consumed c.in_ok-count.ensures.bytes.0
    c.in_ok-count.ensures.within.0 c.pieces.invariant.counted c.in_ok-count.ensures.counted

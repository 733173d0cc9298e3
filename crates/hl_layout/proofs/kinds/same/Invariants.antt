use Rattle.std.proofs.Common.{◌≡◌, replicate}
use Rattle.hl_layout.proofs.kinds.same.Given as goal

abbrev pub invariant-loop-turn : goal.invariant-loop-turn
invariant-loop-turn l = l.kinds ≡ replicate l._turn l.kind

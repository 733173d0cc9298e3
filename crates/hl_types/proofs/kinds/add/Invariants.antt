use Rattle.std.proofs.Common.{◌≡◌, ◌++◌, replicate}
use Rattle.hl_types.proofs.kinds.add.Given as goal

abbrev pub invariant-loop-turn : goal.invariant-loop-turn
invariant-loop-turn l = l.kinds ≡ l.initial.kinds ++ replicate l._turn l.kind

use Rattle.std.proofs.Common.{◌≡◌}
use Rattle.hl_meaning.specs.Layout.{repeated}
use Rattle.hl_layout.proofs.kinds.repeated.Given as goal

abbrev pub invariant-loop-turn : goal.invariant-loop-turn
invariant-loop-turn l = l.all ≡ repeated l._turn l.kinds

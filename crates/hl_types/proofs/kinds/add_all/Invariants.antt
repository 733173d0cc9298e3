use Rattle.std.proofs.Common.{◌≡◌, ◌++◌}
use Rattle.hl_meaning.specs.Layout.{repeated}
use Rattle.hl_types.proofs.kinds.add_all.Given as goal

abbrev pub invariant-loop-turn : goal.invariant-loop-turn
invariant-loop-turn l = l.kinds ≡ l.initial.kinds ++ repeated l._turn l.part

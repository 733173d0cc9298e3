use Rattle.std.proofs.Common.{ℕ, ◌<◌}
use Rattle.dx_validate.specs.Places.{FailsAt, HasFineWidth}
use Rattle.dx_validate.proofs.rules.first_odd_width.Given as goal

abbrev pub invariant-loop-number : goal.invariant-loop-number
invariant-loop-number l = (k : ℕ) → k < l.number → FailsAt HasFineWidth l.types k → ⊥

use Rattle.std.proofs.Common.{ℕ, ◌<◌}
use Rattle.dx_validate.specs.Places.{FailsAt, HasKnownName}
use Rattle.dx_validate.proofs.rules.first_unknown_name.Given as goal

abbrev pub invariant-loop-place : goal.invariant-loop-place
invariant-loop-place l = (k : ℕ) → k < l.place → FailsAt HasKnownName l.named k → ⊥

use Rattle.std.proofs.Common.{ℕ, ◌<◌}
use Rattle.dx_container.proofs.Faults.{Stands}
use Rattle.dx_container.proofs.content.check_parts.Given as goal

abbrev pub invariant-loop-k : goal.invariant-loop-k
invariant-loop-k l = (j : ℕ) → j < l.k → Stands l.bytes j

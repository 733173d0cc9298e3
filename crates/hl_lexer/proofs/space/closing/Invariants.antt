use Rattle.std.proofs.Common.{ℕ, ◌<◌}
use Rattle.hl_lexer.specs.Scanning.{ClosesAt}
use Rattle.hl_lexer.proofs.space.closing.Given as goal

abbrev pub invariant-loop-index : goal.invariant-loop-index
invariant-loop-index l = (k : ℕ) → k < l.index → ClosesAt l.bytes k → ⊥

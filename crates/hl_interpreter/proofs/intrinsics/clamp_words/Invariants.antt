use Rattle.std.proofs.Common.{◌≡◌, ◌++◌, drop}
use Rattle.hl_source.specs.Intrinsics.{clamped}
use Rattle.hl_source.specs.Operations.{map_3}
use Rattle.hl_interpreter.proofs.intrinsics.clamp_words.Given as goal

abbrev pub invariant-loop-at : goal.invariant-loop-at
invariant-loop-at l = l.result ++ map_3 (clamped l.kind) (drop l.at l.words) (drop l.at l.low) (drop l.at l.high) ≡ map_3 (clamped l.kind) l.words l.low l.high

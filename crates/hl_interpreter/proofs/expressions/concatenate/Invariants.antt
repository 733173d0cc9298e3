use Rattle.std.proofs.Common.{◌≡◌, ◌++◌, drop}
use Rattle.std.specs.List.{concat}
use Rattle.hl_interpreter.proofs.expressions.concatenate.Given as goal

abbrev pub invariant-loop-value : goal.invariant-loop-value
invariant-loop-value l = l.words ++ concat (drop l.value-index l.values) ≡ concat l.values

use Rattle.std.proofs.Common.{◌≡◌, replicate}
use Rattle.hl_interpreter.proofs.components.repeat_word.Given as goal

abbrev pub invariant-loop-done : goal.invariant-loop-done
invariant-loop-done l = l.words ≡ replicate l._done l.word

use Rattle.std.proofs.Common.{◌≡◌, ◌++◌, drop, string_bytes}
use Rattle.trace_driver.specs.Lines.{numbers}
use Rattle.trace_driver.proofs.lines.numbers.Given as goal

abbrev pub invariant-loop-word : goal.invariant-loop-word
invariant-loop-word l = string_bytes l.text ++ numbers (drop l.word-index l.words) ≡ numbers l.words

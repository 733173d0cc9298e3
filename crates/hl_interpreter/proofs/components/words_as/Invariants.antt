use Rattle.std.proofs.Common.{◌≡◌, ◌++◌, drop, map}
use Rattle.hl_source.specs.Operations.{word_as}
use Rattle.hl_interpreter.proofs.components.words_as.Given as goal

abbrev pub invariant-loop-word : goal.invariant-loop-word
invariant-loop-word l = l.result ++ map (word_as l.kind) (drop l.word-index l.words) ≡ map (word_as l.kind) l.words

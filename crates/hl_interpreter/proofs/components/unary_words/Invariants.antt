use Rattle.std.proofs.Common.{◌≡◌, ◌++◌, drop, map}
use Rattle.hl_source.specs.Operations.{unary_word}
use Rattle.hl_interpreter.proofs.components.unary_words.Given as goal

abbrev pub invariant-loop-word : goal.invariant-loop-word
invariant-loop-word l = l.result ++ map (unary_word l.op) (drop l.word-index l.words) ≡ map (unary_word l.op) l.words

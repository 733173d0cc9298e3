use Rattle.std.proofs.Common.{◌≡◌, ◌++◌, drop}
use Rattle.hl_source.specs.Operations.{map_2, word_as}
use Rattle.hl_interpreter.proofs.components.words_by_kind.Given as goal

abbrev pub invariant-loop-at : goal.invariant-loop-at
invariant-loop-at l = l.result ++ map_2 word_as (drop l.at l.kinds) (drop l.at l.words) ≡ map_2 word_as l.kinds l.words

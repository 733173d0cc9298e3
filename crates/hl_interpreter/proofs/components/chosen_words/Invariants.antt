use Rattle.std.proofs.Common.{◌≡◌, ◌++◌, drop}
use Rattle.hl_source.specs.Operations.{chosen_word, map_3}
use Rattle.hl_interpreter.proofs.components.chosen_words.Given as goal

abbrev pub invariant-loop-at : goal.invariant-loop-at
invariant-loop-at l =
    l.result ++ map_3 chosen_word (drop l.at l.condition) (drop l.at l.consequent) (drop l.at l.alternative) ≡ map_3 chosen_word l.condition l.consequent l.alternative

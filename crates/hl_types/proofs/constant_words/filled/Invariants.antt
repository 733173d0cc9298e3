use Rattle.std.proofs.Common.{◌≡◌, map, take}
use Rattle.hl_rules.specs.Elaboration.{word_in}
use Rattle.hl_types.proofs.constant_words.filled.Given as goal

abbrev pub invariant-loop-kind : goal.invariant-loop-kind
invariant-loop-kind l = l.words ≡ map (λ kind. word_in kind l.word) (take l.kind-index l.kinds)

use Rattle.std.proofs.Common.{◌≡◌, drop}
use Rattle.hl_source.specs.Operations.{all_ok, binary_word, binary_words, map_2}
use Rattle.hl_interpreter.proofs.Values.{all_behind}
use Rattle.hl_interpreter.proofs.components.binary_words.Given as goal

abbrev pub invariant-loop-at : goal.invariant-loop-at
invariant-loop-at l = binary_words l.op l.kind l.left l.right ≡ all_behind l.result (all_ok (map_2 (binary_word l.op l.kind) (drop l.at l.left) (drop l.at l.right)))

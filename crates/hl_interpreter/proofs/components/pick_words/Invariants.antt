use Rattle.std.proofs.Common.{◌≡◌, ◌++◌, drop, map, slice_index}
use Rattle.hl_interpreter.proofs.components.pick_words.Given as goal

abbrev pub invariant-loop-letter : goal.invariant-loop-letter
invariant-loop-letter l = l.result ++ map (slice_index l.words) (drop l.letter-index l.letters) ≡ map (slice_index l.words) l.letters

use Rattle.std.proofs.Common.{◌≡◌, ◌++◌, drop}
use Rattle.std.specs.Prelude.{option_map}
use Rattle.hl_types.specs.Leaves.{words_in_kinds}
use Rattle.hl_types.proofs.constant_words.words_in_kinds.Given as goal

abbrev pub invariant-loop-at : goal.invariant-loop-at
invariant-loop-at l = option_map (λ rest. l.made ++ rest) (words_in_kinds (drop l.at l.kinds) (drop l.at l.words)) ≡ words_in_kinds l.kinds l.words

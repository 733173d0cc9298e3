use Rattle.std.proofs.Common.{◌≡◌, map, take}
use Rattle.std.specs.Prelude.{slice_index_or}
use Rattle.hl_values.proofs.steps.picked_letters.Given as goal

abbrev pub invariant-loop-letter : goal.invariant-loop-letter
invariant-loop-letter l = l.picked ≡ map (λ letter. slice_index_or l.before letter 0) (take l.letter-index l.letter-items)

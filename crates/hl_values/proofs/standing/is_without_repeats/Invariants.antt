use Rattle.std.proofs.Common.{◌≡◌, drop}
use Rattle.hl_meaning.specs.Places.{is_without_repeats}
use Rattle.hl_values.proofs.standing.is_without_repeats.Given as goal

abbrev pub invariant-loop-place : goal.invariant-loop-place
invariant-loop-place l = is_without_repeats (drop l.place l.letters) ≡ is_without_repeats l.letters

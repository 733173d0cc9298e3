use Rattle.std.proofs.Common.{take}
use Rattle.hl_overload.specs.Choice.{sums_of}
use Rattle.hl_overload.specs.Views.{plain_candidates, plain_types}
use Rattle.hl_overload.proofs.BestLemmas.{IsBest}
use Rattle.hl_overload.proofs.choosing.choose.Given as goal

abbrev pub invariant-loop-place : goal.invariant-loop-place
invariant-loop-place l = IsBest (take l.place (sums_of (plain_candidates l.candidates) (plain_types l.args))) l.best

use Rattle.std.proofs.Common.{◌≡◌, drop, map}
use Rattle.hl_overload.specs.Views.{plain_candidates}
use Rattle.hl_values.specs.Calls.{params_at}
use Rattle.hl_values.specs.Few.{each}
use Rattle.hl_values.specs.ScopeViews.{plain_function}
use Rattle.hl_values.proofs.EachLemmas.{before}
use Rattle.hl_values.proofs.calls.candidates_at.Given as goal

abbrev pub invariant-loop-place : goal.invariant-loop-place
invariant-loop-place l =
    before (plain_candidates l.candidates.items) (each (params_at (map plain_function l.functions)) (drop l.place-index l.places)) ≡ each (params_at (map plain_function l.functions)) l.places

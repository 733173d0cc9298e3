use Rattle.std.proofs.Common.{◌≡◌}
use Rattle.hl_meaning.specs.Views.{plain_ty}
use Rattle.hl_types.specs.Kinds.{type_kinds}
use Rattle.hl_types.specs.Listing.{finished, steps_weight}
use Rattle.hl_types.proofs.kinds.kinds_of.Given as goal

abbrev pub invariant-loop-step : goal.invariant-loop-step
invariant-loop-step l = finished l.structs l.steps.items l.kinds ≡ type_kinds l.structs (plain_ty l.ty)

abbrev pub decreases-loop-step : goal.decreases-loop-step
decreases-loop-step l = steps_weight l.structs l.steps.items

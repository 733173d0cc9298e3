-- Facts on runs of all programs.
use Rattle.std.proofs.Common.{◌≢◌, ℕ, List, None, sym}
use Rattle.std.proofs.lemmas.Option.{none-some}
use Rattle.lane_core.specs.declared.event.Reply.{Reply}
use Rattle.lane_core.specs.Lane.{Lane}
use Rattle.hl_meaning.specs.Programs.{Program}
use Rattle.hl_source.specs.SourceLane.{source_lane}

-- each lane of each program has a run
pub never_wrong : (p : Program) (n : ℕ) (lane : Lane) (replies : List Reply) → source_lane p n lane replies ≢ None
unfolding source_lane
never_wrong p n lane replies wrong = none-some _ (sym wrong)

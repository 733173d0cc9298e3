-- When two meanings of a lane are the same.
use Rattle.std.specs.Prelude.{◌≡◌, ◌≢◌, ℕ, List, ◌++◌, Some, None}
use Rattle.lane_core.specs.declared.event.Event.{Event}
use Rattle.lane_core.specs.declared.event.Reply.{Reply}
use Rattle.lane_core.specs.declared.event.Asked.TheVariants.{Goes}
use Rattle.lane_core.specs.Lane.{Lane, Run, LaneMeaning}

-- one list of events is the front of another
abbrev pub IsPrefix : List Event → List Event → Type 0
IsPrefix front whole = (rest : List Event) × (front ++ rest ≡ whole)

-- each run of the first meaning that asks, has ended or has faulted is one of the second, at some bound
abbrev pub KeepsOutcomes : LaneMeaning → LaneMeaning → Type 0
KeepsOutcomes first second =
    (lane : Lane) (replies : List Reply) (n : ℕ) (run : Run) → first n lane replies ≡ Some run → run.outcome ≢ Goes → (k : ℕ) × (second k lane replies ≡ Some run)

-- the events of each run of the first meaning begin those of a run of the second
abbrev pub KeepsEvents : LaneMeaning → LaneMeaning → Type 0
KeepsEvents first second =
    (lane : Lane) (replies : List Reply) (n : ℕ) (run : Run) → first n lane replies ≡ Some run → (k : ℕ) × (further : Run) × (second k lane replies ≡ Some further) × IsPrefix run.events further.events

-- the two meanings say the same of every lane under every list of replies: a run whose outcome isn't
-- Goes is one of both, the events of each run of one begin those of a run of the other, and the second
-- is never Wrong
pub record SameLane (first second : LaneMeaning) : Type 0 where
  pub outcomes : KeepsOutcomes first second
  pub outcomes_back : KeepsOutcomes second first
  pub events : KeepsEvents first second
  pub events_back : KeepsEvents second first
  pub never_wrong : (n : ℕ) (lane : Lane) (replies : List Reply) → second n lane replies ≢ None

-- meanings that are the same as a third one's are the same
abbrev pub SameLaneIsTransitive : Type 0
SameLaneIsTransitive =
    (first second third : LaneMeaning) → SameLane first second → SameLane second third → SameLane first third

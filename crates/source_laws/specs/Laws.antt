-- What holds of the lane of every program.
use Rattle.std.specs.Prelude.{◌≡◌, ℕ, ◌≤◌, List, [], ◌∷◌, ◌++◌, Some}
use Rattle.lane_core.specs.declared.event.Asked.{Asked}
use Rattle.lane_core.specs.declared.event.Asked.TheVariants.{Asks, Ended, Fault, Goes}
use Rattle.lane_core.specs.declared.event.Reply.{Reply}
use Rattle.lane_core.specs.Lane.{Lane, Run}
use Rattle.lane_core.specs.SameLane.{IsPrefix}
use Rattle.hl_meaning.specs.Programs.{Program}
use Rattle.hl_source.specs.SourceLane.{source_lane}

-- What a run of an outcome becomes with no fewer turns, and with `more` replies behind its own.
abbrev pub ExtendsBy : Asked → (more : List Reply) → (run later : Run) → Type 0
-- a run that has ended or has faulted stays as it is
ExtendsBy Ended more run later = later ≡ run
ExtendsBy (Fault fault) more run later = later ≡ run
-- a run without turns may go on: its events are the first ones of the later run
ExtendsBy Goes more run later = IsPrefix run.events later.events
-- a run that asks an event stays as it is where no replies are added; else that event comes behind its others
ExtendsBy (Asks event) [] run later = later ≡ run
ExtendsBy (Asks event) (reply ∷ more) run later = IsPrefix (run.events ++ event ∷ []) later.events

abbrev pub Extends : (more : List Reply) → (run later : Run) → Type 0
Extends more run later = ExtendsBy run.outcome more run later

-- The run of a lane with no fewer turns, under replies that begin with the same ones, extends the run.
abbrev pub RunsExtend : Type 0
RunsExtend =
    (p : Program) (n n' : ℕ) (lane : Lane) (replies more : List Reply) (run later : Run) → n ≤ n' → source_lane p n lane replies ≡ Some run → source_lane p n' lane (replies ++ more) ≡ Some later → Extends more run later

-- A lane has the run of each lane that differs from it in the words that its private allocations start with.
abbrev pub StartIsNotRead : Type 0
StartIsNotRead =
    (p : Program) (n : ℕ) (lane : Lane) (start : List ℕ) (replies : List Reply) → source_lane p n lane replies ≡ source_lane p n (record lane { start = start }) replies

-- What a lane of a dispatch is, what one run of it asks, and what a meaning of a lane is.
use Rattle.std.specs.Prelude.{ℕ, List, [], ◌∷◌, ◌++◌, Option}
use Rattle.lane_core.specs.declared.event.Event.{Event}
use Rattle.lane_core.specs.declared.event.Reply.{Reply}
use Rattle.lane_core.specs.declared.event.Asked.{Asked}
use Rattle.lane_core.specs.declared.event.Asked.TheVariants.{Asks, Ended}

-- a place in a grid of groups or of threads
pub record Coordinates : Type 0 where
  pub x : ℕ
  pub y : ℕ
  pub z : ℕ

-- a lane: its group's place among the groups, its own place in the group, its index in its wave, the
-- size of a wave, and the words that its private allocations start with
pub record Lane : Type 0 where
  pub group : Coordinates
  pub thread : Coordinates
  pub lane_index : ℕ
  pub wave_size : ℕ
  pub start : List ℕ

-- one run of a lane: the events that had a reply, in order, and where the lane stands after them
pub record Run : Type 0 where
  pub events : List Event
  pub outcome : Asked

-- a meaning of a lane: its run within a bound under a list of replies, where the k-th event takes the
-- k-th reply; none is Wrong, a run that no correct program has
abbrev pub LaneMeaning : Type 0
LaneMeaning = ℕ → Lane → List Reply → Option Run

-- a lane's exchange so far: the events that had a reply, in order, and the replies that are left
pub record Exchange : Type 0 where
  pub asked : List Event
  pub replies : List Reply

-- no event was asked yet
abbrev pub first_exchange : List Reply → Exchange
first_exchange replies = record { asked = []; replies = replies }

-- the run that stands there after an exchange
abbrev pub standing : Exchange → Asked → Run
standing exchange outcome = record { events = exchange.asked; outcome = outcome }

-- asks an event: without a reply the run stops there, and else it goes on with the reply
abbrev pub ask_with : {R : Type 0} → (Run → R) → Event → List Event → List Reply → (Reply → Exchange → R) → R
ask_with stop event asked [] go = stop (record { events = asked; outcome = Asks event })
ask_with stop event asked (reply ∷ replies) go =
    go reply (record { asked = asked ++ event ∷ []; replies = replies })

abbrev pub ask : {R : Type 0} → (Run → R) → Event → Exchange → (Reply → Exchange → R) → R
ask stop event exchange go = ask_with stop event exchange.asked exchange.replies go

-- asks the events in order, whatever the replies are, and then ends
abbrev pub asking_after : List Event → Exchange → Run
asking_after [] exchange = standing exchange Ended
asking_after (event ∷ events) exchange =
    ask (λ run. run) event exchange (λ _ exchange'. asking_after events exchange')

abbrev pub asking : List Event → List Reply → Run
asking events replies = asking_after events (first_exchange replies)

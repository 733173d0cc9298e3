-- What a lane keeps while a function runs, and how a part of a run goes on or ends.
use Rattle.std.specs.Prelude.{ℕ, List, [], ◌∷◌, ◌++◌, slice_get, slice_set, unwrap_or, Result, Ok, Err}
use Rattle.lane_core.specs.declared.event.Event.{Event}
use Rattle.lane_core.specs.declared.event.Reply.{Reply}
use Rattle.lane_core.specs.declared.event.LaneFault.{LaneFault}
use Rattle.lane_core.specs.declared.event.Slot.{Slot}
use Rattle.lane_core.specs.declared.event.Asked.TheVariants.{Fault, Goes}
use Rattle.lane_core.specs.Lane.{Exchange, Lane, Run, ask, standing}
use Rattle.hl_meaning.specs.Places.{Scope}
use Rattle.lane_core.specs.Replies.{reply_word}

-- the words of each variable of the function that runs, and what was asked so far
pub record State : Type 0 where
  pub variables : List (List ℕ)
  pub exchange : Exchange

-- A part of a run goes on with something, or the run ends in it: it asks an event that has no reply yet, it has a fault,
-- or it is out of turns.
pub data Progress (A : Type 0) : Type 0 where
  goes_with : (something : A) (state : State) → Progress A
  ends_at : (run : Run) → Progress A

-- a part that gives something, and then one that takes it
abbrev pub after : {A B : Type 0} → Progress A → (A → State → Progress B) → Progress B
after (goes_with something state) next = next something state
after (ends_at run) next = ends_at run

-- a part, and then one that gives a list: what both give
abbrev pub first_then : {A : Type 0} → Progress A → (State → Progress (List A)) → Progress (List A)
first_then first rest = after first (λ a s. after (rest s) (λ more s'. goes_with (a ∷ more) s'))

-- two parts that give lists, one after the other: the lists joined
abbrev pub joined : {A : Type 0} → Progress (List A) → (State → Progress (List A)) → Progress (List A)
joined first rest = after first (λ some s. after (rest s) (λ more s'. goes_with (some ++ more) s'))

-- a part alone, as a list
abbrev pub alone : {A : Type 0} → Progress A → Progress (List A)
alone part = after part (λ a s. goes_with (a ∷ []) s)

-- a part for each of a list, one after another
abbrev pub each : {A B : Type 0} → (A → State → Progress B) → List A → State → Progress (List B)
each part [] s = goes_with [] s
each part (first ∷ rest) s = first_then (part first s) (each part rest)

-- a part that is done for its effect: it gives no value
abbrev pub no_value : {A : Type 0} → Progress A → Progress (List ℕ)
no_value part = after part (λ _ s. goes_with [] s)

-- the run ends with a fault
abbrev pub faults : {A : Type 0} → LaneFault → State → Progress A
faults fault s = ends_at (standing s.exchange (Fault fault))

-- the run has no turns left
abbrev pub out_of_turns : {A : Type 0} → State → Progress A
out_of_turns s = ends_at (standing s.exchange Goes)

-- what was computed, or its fault
abbrev pub gives : {A : Type 0} → Result A LaneFault → State → Progress A
gives (Ok something) s = goes_with something s
gives (Err fault) s = faults fault s

-- an event: the run goes on with its reply, and ends at the event where there is none yet
abbrev pub asks : Event → State → Progress Reply
asks event s = ask ends_at event s.exchange (λ reply exchange. goes_with reply (record s { exchange = exchange }))

-- an event whose reply is one word
abbrev pub asks_word : Event → State → Progress ℕ
asks_word event s = after (asks event s) (λ reply s'. goes_with (reply_word reply 0) s')

-- the words of a variable; no well-formed program names one that isn't there
abbrev pub variable_words : State → (number : ℕ) → List ℕ
variable_words s number = unwrap_or (slice_get s.variables number) []

-- the state in which a variable has these words
abbrev pub with_variable : (number : ℕ) → List ℕ → State → State
with_variable number words s = record s { variables = slice_set s.variables number words }

-- A function as it is called: from the words that its parameters start with, it gives the words of its result, and
-- leaves its own variables, those of the parameters first.
abbrev pub Callee : Type 0
Callee = (parameters : List (List ℕ)) → Exchange → Progress (List ℕ)

-- what stays the same while a function runs: what it can name, the slots of the buffers, the functions that it can call,
-- and the lane
pub record Context : Type 0 where
  pub scope : Scope
  pub slots : List Slot
  pub callees : List Callee
  pub lane : Lane

-- What holds of the events that a lane of a well-formed program asks.
use Rattle.std.specs.Prelude.{◌≡◌, ℕ, ◌^◌, ◌<◌, ◌≤◌, List, [], ◌∷◌, Some, IsTrue, drop, length, slice_get}
use Rattle.lane_core.specs.declared.event.Asked.{Asked}
use Rattle.lane_core.specs.declared.event.Asked.TheVariants.{Asks, Ended, Fault, Goes}
use Rattle.lane_core.specs.declared.event.Cell.{Cell}
use Rattle.lane_core.specs.declared.event.Event.{Event}
use Rattle.lane_core.specs.declared.event.Event.TheVariants.{Barrier, BufferAtomic, BufferCompareExchange, BufferLoad, BufferStore, SharedAtomic, SharedCompareExchange, SharedLoad, SharedStore, Wave}
use Rattle.lane_core.specs.declared.event.Reply.{Reply}
use Rattle.lane_core.specs.declared.event.Slot.{Slot}
use Rattle.lane_core.specs.declared.event.WaveKind.{WaveKind}
use Rattle.lane_core.specs.declared.event.WaveKind.TheVariants.{ReadLaneAt}
use Rattle.lane_core.specs.Lane.{Lane, Run}
use Rattle.hl_meaning.specs.Layout.{words_of}
use Rattle.hl_meaning.specs.Operators.{is_among}
use Rattle.hl_meaning.specs.Programs.{Program, StructDef, Variable}
use Rattle.hl_meaning.specs.Slots.{slots_of}
use Rattle.hl_meaning.specs.WellFormed.{IsWellFormed}
use Rattle.hl_source.specs.SourceLane.{source_lane}

-- something holds of each of a list
abbrev pub Every : {A : Type 0} → (A → Type 0) → List A → Type 0
Every P [] = Unit {0}
Every P (x ∷ xs) = P x × Every P xs

-- Something holds of all events of a run: of those that had a reply, and of the one that is asked at its end, if one is.
abbrev pub HoldsAsked : (Event → Type 0) → Asked → Type 0
HoldsAsked P (Asks event) = P event
HoldsAsked P Ended = Unit {0}
HoldsAsked P (Fault fault) = Unit {0}
HoldsAsked P Goes = Unit {0}

abbrev pub HoldsOfRun : (Event → Type 0) → Run → Type 0
HoldsOfRun P run = Every P run.events × HoldsAsked P run.outcome

-- Something holds of all events of each run of each lane of a well-formed program, whatever the replies are.
abbrev pub HoldsOfEvents : (Program → Event → Type 0) → Type 0
HoldsOfEvents P =
    (p : Program) → IsWellFormed p → (n : ℕ) (lane : Lane) (replies : List Reply) (run : Run) → source_lane p n lane replies ≡ Some run → HoldsOfRun (P p) run

-- a number of 32 bits
abbrev pub Is32Bits : ℕ → Type 0
Is32Bits number = number < 2 ^ 32

-- The numbers in an event that a lane computes: addresses, operands and what is stored. What is named, as a slot or a
-- variable, isn't among them, nor is how many words are stored.
abbrev pub numbers_of : Event → List ℕ
numbers_of (BufferLoad slot index offset) = index ∷ offset ∷ []
numbers_of (BufferStore slot index offset count words) = index ∷ offset ∷ words
numbers_of (BufferAtomic slot index offset kind word) = index ∷ offset ∷ word ∷ []
numbers_of (BufferCompareExchange slot index offset compare word) = index ∷ offset ∷ compare ∷ word ∷ []
numbers_of (SharedLoad cell) = cell.word ∷ []
numbers_of (SharedStore cell word) = cell.word ∷ word ∷ []
numbers_of (SharedAtomic cell kind word) = cell.word ∷ word ∷ []
numbers_of (SharedCompareExchange cell compare word) = cell.word ∷ compare ∷ word ∷ []
numbers_of (Barrier mode) = mode ∷ []
numbers_of (Wave kind operand lane) = operand ∷ lane ∷ []

abbrev pub HasWords : Event → Type 0
HasWords event = Every Is32Bits (numbers_of event)

-- All numbers that a lane computes for its events are words of 32 bits.
abbrev pub EventsHaveWords : Type 0
EventsHaveWords = HoldsOfEvents (λ p event. HasWords event)

-- the slot of a buffer, where these are the slots of all
abbrev pub IsSlot : List Slot → Slot → Type 0
IsSlot slots slot = (resource : ℕ) × (slice_get slots resource ≡ Some slot)

-- a word of a groupshared variable that is there
abbrev pub IsCell : List StructDef → (shared : List Variable) → Cell → Type 0
IsCell structs shared target = (v : Variable) × (slice_get shared target.variable ≡ Some v) × (target.word < words_of structs v.ty)

-- From one to four words are stored, in four places: those behind them hold 0.
pub record Stores (count : ℕ) (words : List ℕ) : Type 0 where
  pub some : 1 ≤ count
  pub most : count ≤ 4
  pub places : length words ≡ 4
  pub zeros : Every (λ word. word ≡ 0) (drop count words)

-- the modes of the barriers of the source
abbrev pub barrier_modes : List ℕ
barrier_modes = 2 ∷ 3 ∷ 8 ∷ 9 ∷ 10 ∷ 11 ∷ []

-- a wave operation that reads no lane of a number has 0 in its place
abbrev pub NamesLane : WaveKind → ℕ → Type 0
NamesLane ReadLaneAt lane = Unit {0}
NamesLane _ lane = lane ≡ 0

-- An event names a buffer or a word of a groupshared variable that is there, where it stores to a
-- buffer from one to four words, or is one of the source's barriers or wave operations.
abbrev pub Names : List StructDef → (shared : List Variable) → List Slot → Event → Type 0
Names structs shared slots (BufferLoad slot index offset) = IsSlot slots slot
Names structs shared slots (BufferStore slot index offset count words) = IsSlot slots slot × Stores count words
Names structs shared slots (BufferAtomic slot index offset kind word) = IsSlot slots slot
Names structs shared slots (BufferCompareExchange slot index offset compare word) = IsSlot slots slot
Names structs shared slots (SharedLoad target) = IsCell structs shared target
Names structs shared slots (SharedStore target word) = IsCell structs shared target
Names structs shared slots (SharedAtomic target kind word) = IsCell structs shared target
Names structs shared slots (SharedCompareExchange target compare word) = IsCell structs shared target
Names structs shared slots (Barrier mode) = IsTrue (is_among barrier_modes mode)
Names structs shared slots (Wave kind operand lane) = NamesLane kind lane

-- Each event of a lane names what is there in the program.
abbrev pub EventsNameWhatIsThere : Type 0
EventsNameWhatIsThere = HoldsOfEvents (λ p event. Names p.structs p.shared (slots_of p.resources) event)

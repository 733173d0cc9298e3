-- The lines of events and outcomes: what a lane asks, and how its run ends, as bytes.
use Rattle.std.specs.Prelude.{ℕ, List, [], ◌∷◌, ◌++◌, codes, decimal, flat_map, take}
use Rattle.lane_core.specs.Lane.{Run}
use Rattle.lane_core.specs.declared.event.Asked.{Asked}
use Rattle.lane_core.specs.declared.event.Asked.TheVariants.{Asks, Ended, Fault, Goes}
use Rattle.lane_core.specs.declared.event.AtomicKind.{AtomicKind}
use Rattle.lane_core.specs.declared.event.AtomicKind.TheVariants.{Add, And, Or, Xor, IMin, IMax, UMin, UMax, Exchange}
use Rattle.lane_core.specs.declared.event.Cell.{Cell}
use Rattle.lane_core.specs.declared.event.Event.{Event}
use Rattle.lane_core.specs.declared.event.Event.TheVariants.{BufferLoad, BufferStore, BufferAtomic, BufferCompareExchange, SharedLoad, SharedStore, SharedAtomic, SharedCompareExchange, Barrier, Wave}
use Rattle.lane_core.specs.declared.event.LaneFault.{LaneFault}
use Rattle.lane_core.specs.declared.event.LaneFault.TheVariants.{DivideByZero, DivideOverflow, OutOfBounds, ShiftTooFar}
use Rattle.lane_core.specs.declared.event.Slot.{Slot}
use Rattle.lane_core.specs.declared.event.WaveKind.{WaveKind}
use Rattle.lane_core.specs.declared.event.WaveKind.TheVariants.{AnyTrue, AllTrue, AllEqual, Ballot, ReadLaneAt, ReadLaneFirst, IsFirst, Sum, Product, SignedMin, SignedMax, UnsignedMin, UnsignedMax, BitAnd, BitOr, BitXor, PrefixSum, PrefixProduct}
use Rattle.dxil_driver.specs.Refusal.{line, line_feed}

-- the name of an atomic operation
abbrev pub atomic_name : AtomicKind → List ℕ
atomic_name Add = codes "add"
atomic_name And = codes "and"
atomic_name Or = codes "or"
atomic_name Xor = codes "xor"
atomic_name IMin = codes "imin"
atomic_name IMax = codes "imax"
atomic_name UMin = codes "umin"
atomic_name UMax = codes "umax"
atomic_name Exchange = codes "exchange"

-- the name of a wave operation
abbrev pub wave_name : WaveKind → List ℕ
wave_name AnyTrue = codes "any-true"
wave_name AllTrue = codes "all-true"
wave_name AllEqual = codes "all-equal"
wave_name Ballot = codes "ballot"
wave_name ReadLaneAt = codes "read-lane-at"
wave_name ReadLaneFirst = codes "read-lane-first"
wave_name IsFirst = codes "is-first"
wave_name Sum = codes "sum"
wave_name Product = codes "product"
wave_name SignedMin = codes "signed-min"
wave_name SignedMax = codes "signed-max"
wave_name UnsignedMin = codes "unsigned-min"
wave_name UnsignedMax = codes "unsigned-max"
wave_name BitAnd = codes "bit-and"
wave_name BitOr = codes "bit-or"
wave_name BitXor = codes "bit-xor"
wave_name PrefixSum = codes "prefix-sum"
wave_name PrefixProduct = codes "prefix-product"

-- numbers in decimal digits, each behind a space
abbrev pub numbers : List ℕ → List ℕ
numbers [] = []
numbers (n ∷ ns) = codes " " ++ (decimal n ++ numbers ns)

-- where an event of a buffer is: the class, the space and the register of the buffer, the index and the offset, each behind
-- a space
abbrev pub buffer_place : Slot → (index offset : ℕ) → List ℕ
buffer_place slot index offset =
    codes " " ++ (decimal slot.class ++ (codes " " ++ (decimal slot.space ++ (codes " " ++ (decimal slot.register
    ++ (codes " " ++ (decimal index ++ (codes " " ++ decimal offset))))))))

-- where an event of a groupshared variable is: the number of the variable and the place of the word in it, each behind a space
abbrev pub shared_place : Cell → List ℕ
shared_place cell = codes " " ++ (decimal cell.variable ++ (codes " " ++ decimal cell.word))

-- the name of an event
abbrev pub event_name : Event → List ℕ
event_name (BufferLoad slot index offset) = codes "buffer-load"
event_name (BufferStore slot index offset count words) = codes "buffer-store"
event_name (BufferAtomic slot index offset kind word) = codes "buffer-atomic"
event_name (BufferCompareExchange slot index offset compare word) = codes "buffer-compare-exchange"
event_name (SharedLoad cell) = codes "shared-load"
event_name (SharedStore cell word) = codes "shared-store"
event_name (SharedAtomic cell kind word) = codes "shared-atomic"
event_name (SharedCompareExchange cell compare word) = codes "shared-compare-exchange"
event_name (Barrier mode) = codes "barrier"
event_name (Wave kind operand lane) = codes "wave"

-- where an event is, if it is one of a buffer or of a groupshared variable
abbrev pub event_place : Event → List ℕ
event_place (BufferLoad slot index offset) = buffer_place slot index offset
event_place (BufferStore slot index offset count words) = buffer_place slot index offset
event_place (BufferAtomic slot index offset kind word) = buffer_place slot index offset
event_place (BufferCompareExchange slot index offset compare word) = buffer_place slot index offset
event_place (SharedLoad cell) = shared_place cell
event_place (SharedStore cell word) = shared_place cell
event_place (SharedAtomic cell kind word) = shared_place cell
event_place (SharedCompareExchange cell compare word) = shared_place cell
event_place (Barrier mode) = []
event_place (Wave kind operand lane) = []

-- what else an event says, each part behind a space: of a store the words that it stores
abbrev pub event_operands : Event → List ℕ
event_operands (BufferLoad slot index offset) = []
event_operands (BufferStore slot index offset count words) = numbers (take count words)
event_operands (BufferAtomic slot index offset kind word) = codes " " ++ (atomic_name kind ++ (codes " " ++ decimal word))
event_operands (BufferCompareExchange slot index offset compare word) = codes " " ++ (decimal compare ++ (codes " " ++ decimal word))
event_operands (SharedLoad cell) = []
event_operands (SharedStore cell word) = codes " " ++ decimal word
event_operands (SharedAtomic cell kind word) = codes " " ++ (atomic_name kind ++ (codes " " ++ decimal word))
event_operands (SharedCompareExchange cell compare word) = codes " " ++ (decimal compare ++ (codes " " ++ decimal word))
event_operands (Barrier mode) = codes " " ++ decimal mode
event_operands (Wave kind operand lane) = codes " " ++ (wave_name kind ++ (codes " " ++ (decimal operand ++ (codes " " ++ decimal lane))))

-- the line of an event: its name, where it is, and what else it says
abbrev pub event_line : Event → List ℕ
event_line event = event_name event ++ (event_place event ++ (event_operands event ++ line_feed))

-- the line of a fault; a lane of a source has no shift that goes too far
abbrev pub fault_line : LaneFault → List ℕ
fault_line DivideByZero = line (codes "fault divide-by-zero")
fault_line DivideOverflow = line (codes "fault divide-overflow")
fault_line OutOfBounds = line (codes "fault out-of-bounds")
fault_line ShiftTooFar = line (codes "fault shift-too-far")

-- the last lines: the event that is asked and has no reply yet, where there is one, and the outcome
abbrev pub outcome_lines : Asked → List ℕ
outcome_lines (Asks event) = event_line event ++ line (codes "asks")
outcome_lines Ended = line (codes "ended")
outcome_lines (Fault fault) = fault_line fault
outcome_lines Goes = line (codes "goes")

-- the lines of a run: those of the events that had a reply, in order, and the last ones
abbrev pub run_lines : Run → List ℕ
run_lines run = flat_map event_line run.events ++ outcome_lines run.outcome

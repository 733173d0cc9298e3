-- What is read of pieces and of blocks at places of bytes. Only the reader's own functions cite it.
use Rattle.std.specs.Prelude.{◌≡◌, ℕ, ◌+◌, ◌*◌, ◌%◌, ◌^◌, ◌<◌, ◌≤◌, List, [], ◌∷◌, length, Option, Some, None}
use Rattle.bc_stream.specs.declared.fault.StreamFault.{StreamFault}
use Rattle.bc_stream.specs.declared.fault.StreamFault.TheVariants.{Bad, Memory}
use Rattle.bc_stream.specs.declared.piece.HeadRead.{HeadRead}
use Rattle.bc_stream.specs.declared.piece.Scope.{Scope}
use Rattle.bc_stream.specs.declared.piece.Piece.{Piece}
use Rattle.bc_stream.specs.declared.piece.Piece.TheVariants.{Leave, Enter, Record}
use Rattle.bc_stream.specs.declared.few.Head.{Head}
use Rattle.bc_stream.specs.Bits.{Place}
use Rattle.bc_stream.specs.Spelling.{Raw, raw_leave, raw_enter, raw_record, layout, Frame, State, width_in, most_levels, Good, FaultHere}
use Rattle.bc_stream.specs.Reading.{place_in, Holds, FixedAt, NumberAt}

-- A number below a limit, or none where it isn't below.
abbrev pub IsBelow : ℕ → Option ℕ → Option ℕ → Type 0
IsBelow limit value None = (number : ℕ) → Holds value number → limit ≤ number
IsBelow limit value (Some small) = (number : ℕ) → Holds value number → (small ≡ number) × (number < limit)

-- The head of a block behind its abbreviation id.
pub record HeadAt (bytes : List ℕ) (at : ℕ) (head : HeadRead) : Type 0 where
  pub id : ℕ
  pub width : ℕ
  pub reads : layout (raw_enter id width head.words) (place_in bytes at) (place_in bytes head.to)
  pub holds_id : Holds head.id id
  pub holds_width : Holds head.width width
  pub short : head.words < 2 ^ 32
  pub forward : at < head.to
  pub within : head.to ≤ 8 * length bytes

-- No head is read at a place.
abbrev pub NoHead : List ℕ → ℕ → Type 0
NoHead bytes at = (id width words : ℕ) (to : Place) → layout (raw_enter id width words) (place_in bytes at) to → ⊥

-- Where a piece begins.
abbrev pub state_in : List ℕ → List Frame → ℕ → State
state_in bytes frames at = record { frames = frames; place = place_in bytes at }

-- the place where the innermost open block is to end
abbrev pub ends_in : List Frame → ℕ
ends_in [] = 0
ends_in (frame ∷ frames) = frame.ends

-- These are open blocks of which a scope tells.
pub record Knows (scope : Scope) (frames : List Frame) : Type 0 where
  pub levels-is : length frames ≡ scope.levels
  pub width-is : width_in frames ≡ scope.width
  pub ends-is : ends_in frames ≡ scope.ends

-- A good piece stands at a place.
abbrev pub GoodAt : List ℕ → Scope → ℕ → Raw → ℕ → Type 0
GoodAt bytes scope at raw to = (frames : List Frame) → Knows scope frames → Good (state_in bytes frames at) raw (place_in bytes to)

-- A fault of this kind stands at a place.
abbrev pub HasFault : List ℕ → Scope → ℕ → ℕ → Type 0
HasFault bytes scope at kind = (frames : List Frame) → Knows scope frames → FaultHere (state_in bytes frames at) kind

-- The fault that is answered stands at a place, or memory was refused.
abbrev pub FaultAt : List ℕ → Scope → ℕ → StreamFault → Type 0
FaultAt bytes scope at (Bad kind bit) = (bit ≡ at) × HasFault bytes scope at kind
FaultAt bytes scope at Memory = Unit {0}

-- The end of a block.
pub record LeaveAt (bytes : List ℕ) (scope : Scope) (at : ℕ) (to : ℕ) : Type 0 where
  pub good : GoodAt bytes scope at raw_leave to
  pub on_word : to % 32 ≡ 0
  pub forward : at ≤ to
  pub within : to ≤ 8 * length bytes

-- The head of a block, with what is known inside it.
pub record EnterAt (bytes : List ℕ) (scope : Scope) (at : ℕ) (id : ℕ) (inner : Scope) (to : ℕ) : Type 0 where
  pub words : ℕ
  pub good : GoodAt bytes scope at (raw_enter id inner.width words) to
  pub levels-is : inner.levels ≡ scope.levels + 1
  pub ends-is : inner.ends ≡ to + 32 * words
  pub room : inner.levels ≤ most_levels
  pub limit : inner.width ≤ 64
  pub forward : at < to
  pub within : to ≤ 8 * length bytes

-- A record.
pub record EntryAt (bytes : List ℕ) (scope : Scope) (at : ℕ) (code : ℕ) (values : List ℕ) (to : ℕ) : Type 0 where
  pub good : GoodAt bytes scope at (raw_record code values) to
  pub forward : at < to
  pub within : to ≤ 8 * length bytes

-- A good piece that was read.
abbrev pub PieceAt : List ℕ → Scope → ℕ → Piece → Type 0
PieceAt bytes scope at (Leave to) = LeaveAt bytes scope at to
PieceAt bytes scope at (Enter id inner to) = EnterAt bytes scope at id inner to
PieceAt bytes scope at (Record code values to) = EntryAt bytes scope at code values to

-- The head of a record of few values: its abbreviation id, its code and its number of values.
pub record HeadOfFew (bytes : List ℕ) (width : ℕ) (at : ℕ) (head : Head) : Type 0 where
  pub behind : ℕ
  pub id : FixedAt bytes width at 3
  pub code : NumberAt bytes 5 (at + width) (record { value = Some head.code; to = behind })
  pub count : NumberAt bytes 5 behind (record { value = Some head.count; to = head.to })
  pub small : head.code < 2 ^ 32
  pub few : head.count ≤ 4

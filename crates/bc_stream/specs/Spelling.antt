-- How bytes spell blocks and records (LLVM Bitcode File Format, "Abbreviation IDs", "Blocks", "Data Records").
--
-- The bytes are cut into pieces. A piece is read by its layout alone, whatever its numbers are, and then judged by a
-- table of the facts that are against it. What the pieces show, in order, is the list that the bytes spell.
use Rattle.std.specs.Prelude.{◌≡◌, ◌≢◌, ℕ, ◌+◌, ◌*◌, ◌^◌, ◌<◌, ◌≤◌, ◌⊎◌, List, [], ◌∷◌, ◌++◌, length}
use Rattle.std.specs.List.{All, flat_map}
use Rattle.bc_stream.specs.Bits.{bits_of, Place, Step, ◌then◌, Fixed, Aligned, Vbr, Vbrs}
use Rattle.bc_stream.specs.Blocks.{Contents, no_more, a_record, a_block}

-- ---- pieces

-- What a piece says, its numbers of any size. Abbreviations aren't read yet: a definition is read to its id alone.
pub data Raw : Type 0 where
  raw_leave : Raw
  raw_enter : (id : ℕ) (new_width : ℕ) (words : ℕ) → Raw
  raw_define : Raw
  raw_record : (code : ℕ) (values : List ℕ) → Raw
  raw_undefined : (id : ℕ) → Raw

-- The abbreviation id with which a piece begins.
abbrev pub id_of : Raw → ℕ
id_of raw_leave = 0
id_of (raw_enter id new_width words) = 1
id_of raw_define = 2
id_of (raw_record code values) = 3
id_of (raw_undefined id) = id

-- The layout of a piece behind its abbreviation id.
--   END_BLOCK        [0, align32]
--   ENTER_SUBBLOCK   [1, blockid: vbr8, newabbrevlen: vbr4, align32, blocklen: 32]
--   DEFINE_ABBREV    [2, ..]
--   UNABBREV_RECORD  [3, code: vbr6, numops: vbr6, op: vbr6 each]
abbrev pub layout : Raw → Step
layout raw_leave from to = Aligned from to
layout (raw_enter id new_width words) from to = (Vbr 8 id then Vbr 4 new_width then Aligned then Fixed 32 words) from to
layout raw_define from to = to ≡ from
layout (raw_record code values) from to = (Vbr 6 code then Vbr 6 (length values) then Vbrs 6 values) from to
layout (raw_undefined id) from to = (4 ≤ id) × (to ≡ from)

-- a piece where abbreviation ids have a width
abbrev pub reads : ℕ → Raw → Step
reads width raw = Fixed width (id_of raw) then layout raw

-- ---- open blocks

-- An open block: its id, the width of abbreviation ids in it, and the place where it ends.
pub record Frame : Type 0 where
  pub id : ℕ
  pub width : ℕ
  pub ends : ℕ

-- Where a piece begins: the open blocks, the innermost first, and the place.
pub record State : Type 0 where
  pub frames : List Frame
  pub place : Place

-- the width of abbreviation ids: outside all blocks it is 2
abbrev pub width_in : List Frame → ℕ
width_in [] = 2
width_in (frame ∷ frames) = frame.width

-- the open blocks but the innermost
abbrev pub outer : List Frame → List Frame
outer [] = []
outer (frame ∷ frames) = frames

-- the open blocks behind a piece that ends at a place
abbrev pub frames_after : List Frame → Raw → Place → List Frame
frames_after frames raw_leave to = outer frames
frames_after frames (raw_enter id new_width words) to = record { id = id; width = new_width; ends = to.at + 32 * words } ∷ frames
frames_after frames raw_define to = frames
frames_after frames (raw_record code values) to = frames
frames_after frames (raw_undefined id) to = frames

-- ---- what is against a piece: the kinds of faults

-- other first four bytes
abbrev pub wrong_magic : ℕ
wrong_magic = 1

-- the end of the bytes inside a piece, or in the place of a block's next piece
abbrev pub end_of_bytes : ℕ
end_of_bytes = 2

-- an abbreviation id that isn't defined
abbrev pub undefined_id : ℕ
undefined_id = 3

-- a number above 64 bits, a block id or a code above 32 bits, or a width above 64
abbrev pub too_large : ℕ
too_large = 4

-- a block that ends elsewhere than its length says
abbrev pub wrong_length : ℕ
wrong_length = 5

-- something else than a block outside all blocks
abbrev pub outside_blocks : ℕ
outside_blocks = 7

-- more than 16 levels
abbrev pub too_deep : ℕ
too_deep = 9

-- a definition of an abbreviation or the block of abbreviations, which aren't read yet
abbrev pub not_built : ℕ
not_built = 10

-- the greatest number of blocks in one another
abbrev pub most_levels : ℕ
most_levels = 16

-- The innermost open block ends elsewhere.
abbrev pub EndsElsewhere : List Frame → Place → Type 0
EndsElsewhere [] to = ⊥
EndsElsewhere (frame ∷ frames) to = to.at ≢ frame.ends

-- One row for each fact: the kind, and the piece that has it.
abbrev pub Has : List Frame → Place → Raw → ℕ → Type 0
Has frames to raw_leave kind =
    ((kind ≡ outside_blocks) × (frames ≡ []))
    ⊎ ((kind ≡ wrong_length) × EndsElsewhere frames to)
Has frames to (raw_enter id new_width words) kind =
    ((kind ≡ too_large) × (2 ^ 32 ≤ id))
    ⊎ (((kind ≡ too_large) × (64 < new_width))
    ⊎ (((kind ≡ too_deep) × (most_levels ≤ length frames))
    ⊎ ((kind ≡ not_built) × (id ≡ 0))))
Has frames to raw_define kind =
    ((kind ≡ outside_blocks) × (frames ≡ []))
    ⊎ (kind ≡ not_built)
Has frames to (raw_record code values) kind =
    ((kind ≡ outside_blocks) × (frames ≡ []))
    ⊎ (((kind ≡ too_large) × (2 ^ 32 ≤ code))
    ⊎ ((kind ≡ too_large) × (All (λ value. value < 2 ^ 64) values → ⊥)))
Has frames to (raw_undefined id) kind = kind ≡ undefined_id

-- A good piece is read and has nothing against it.
pub record Good (from : State) (raw : Raw) (to : Place) : Type 0 where
  pub is_read : reads (width_in from.frames) raw from.place to
  pub has_none : (kind : ℕ) → Has from.frames to raw kind → ⊥

-- Good pieces, one after another.
pub record GoodThen (raw : Raw) (Rest : State → Type 0) (from : State) : Type 0 where
  pub behind : Place
  pub good : Good from raw behind
  pub rest : Rest (record { frames = frames_after from.frames raw behind; place = behind })

abbrev pub Leads : List Raw → State → State → Type 0
Leads [] to from = to ≡ from
Leads (raw ∷ raws) to from = GoodThen raw (Leads raws to) from

-- ---- the list that is spelled

-- What a piece shows of the list.
pub data Shown : Type 0 where
  shown_leave : Shown
  shown_enter : (id : ℕ) → Shown
  shown_record : (code : ℕ) (values : List ℕ) → Shown

abbrev pub shown : Raw → List Shown
shown raw_leave = shown_leave ∷ []
shown (raw_enter id new_width words) = shown_enter id ∷ []
shown raw_define = []
shown (raw_record code values) = shown_record code values ∷ []
shown (raw_undefined id) = []

-- What the pieces of a list show, in order.
abbrev pub shown_of : Contents → List Shown
shown_of no_more = []
shown_of (a_record code values rest) = shown_record code values ∷ shown_of rest
shown_of (a_block id inner rest) = shown_enter id ∷ shown_of inner ++ shown_leave ∷ shown_of rest

-- Where the first piece begins.
abbrev pub start : List ℕ → State
start bytes = record { frames = []; place = record { at = 32; left = bits_of bytes } }

-- Zero bytes after the last outermost block are skipped.
pub record IsEnd (state : State) : Type 0 where
  pub closed : state.frames ≡ []
  pub zeros : All (λ bit. bit ≡ 0) state.place.left

-- Bytes spell a list of blocks: 'BC' 0xC0DE, and then pieces that show the list.
pub record Spelled (bytes : List ℕ) (blocks : Contents) : Type 0 where
  pub behind : List ℕ
  pub magic : bytes ≡ 66 ∷ 67 ∷ 192 ∷ 222 ∷ behind
  pub pieces : List Raw
  pub end : State
  pub leads : Leads pieces end (start behind)
  pub ends : IsEnd end
  pub shows : flat_map shown pieces ≡ shown_of blocks

-- ---- the fault of bytes that spell none

-- A piece is read, and this is the least kind that it has.
pub record IsLeastAgainst (from : State) (kind : ℕ) : Type 0 where
  pub raw : Raw
  pub behind : Place
  pub is_read : reads (width_in from.frames) raw from.place behind
  pub has : Has from.frames behind raw kind
  pub least : (other : ℕ) → Has from.frames behind raw other → kind ≤ other

-- No piece is read.
abbrev pub IsCutShort : State → Type 0
IsCutShort from = (raw : Raw) (behind : Place) → reads (width_in from.frames) raw from.place behind → ⊥

-- The fault in the place of a piece.
abbrev pub FaultHere : State → ℕ → Type 0
FaultHere from kind = ((kind ≡ end_of_bytes) × IsCutShort from) ⊎ IsLeastAgainst from kind

-- The fault behind good pieces, at the first bit of the piece that has it.
pub record FaultBehind (bytes : List ℕ) (kind : ℕ) (bit : ℕ) : Type 0 where
  pub behind : List ℕ
  pub magic : bytes ≡ 66 ∷ 67 ∷ 192 ∷ 222 ∷ behind
  pub pieces : List Raw
  pub from : State
  pub leads : Leads pieces from (start behind)
  pub goes_on : IsEnd from → ⊥
  pub here : FaultHere from kind
  pub at : bit ≡ from.place.at

-- The fault of bytes: its kind and its bit, counted from the first of all.
abbrev pub Faulty : List ℕ → ℕ → ℕ → Type 0
Faulty bytes kind bit =
    ((kind ≡ wrong_magic) × (bit ≡ 0) × ((behind : List ℕ) → bytes ≡ 66 ∷ 67 ∷ 192 ∷ 222 ∷ behind → ⊥))
    ⊎ FaultBehind bytes kind bit

-- ---- laws

-- Bytes spell at most one list.
abbrev pub OneList : Type 0
OneList = (bytes : List ℕ) (one other : Contents) → Spelled bytes one → Spelled bytes other → one ≡ other

-- Bytes have at most one fault.
abbrev pub OneFault : Type 0
OneFault = (bytes : List ℕ) (one other at place : ℕ) → Faulty bytes one at → Faulty bytes other place → (one ≡ other) × (at ≡ place)

-- Bytes that spell a list have no fault.
abbrev pub NoFault : Type 0
NoFault = (bytes : List ℕ) (blocks : Contents) (kind bit : ℕ) → Spelled bytes blocks → Faulty bytes kind bit → ⊥

-- What is read at places of bytes. Only the reader's own functions cite it.
--
-- What is read is said with the bits it takes, and where nothing is read, that no reading of its kind begins there.
use Rattle.std.specs.Prelude.{◌≡◌, ℕ, ◌+◌, ◌*◌, ◌%◌, ◌^◌, ◌<◌, ◌≤◌, min, List, length, take, drop, Option, Some, None}
use Rattle.std.specs.List.{All}
use Rattle.bc_stream.specs.declared.reader.Number.{Number}
use Rattle.bc_stream.specs.declared.record.ValuesRead.{ValuesRead}
use Rattle.bc_stream.specs.declared.record.RecordRead.{RecordRead}
use Rattle.bc_stream.specs.Bits.{low_bits, bits_of, Place, Step, Takes, Fixed, Aligned, Chunked, Vbrs}
use Rattle.bc_stream.specs.Spelling.{raw_record, layout}

-- the place in bytes behind so many bits
abbrev pub place_in : List ℕ → ℕ → Place
place_in bytes at = record { at = at; left = drop at (bits_of bytes) }

-- no number is read at a place
abbrev pub NoNumber : (ℕ → Step) → Place → Type 0
NoNumber step from = (number : ℕ) (to : Place) → step number from to → ⊥

-- The lowest bits of a word are those that bytes begin with.
abbrev pub IsFront : List ℕ → ℕ → Type 0
IsFront bytes word = (count : ℕ) → count ≤ 64 → count ≤ 8 * length bytes → take count (bits_of bytes) ≡ low_bits count word

-- The lowest bits of a word are those at a place, at least 57 of them.
abbrev pub IsWindow : List ℕ → ℕ → ℕ → Type 0
IsWindow bytes at word = (width : ℕ) → width ≤ 57 → at + width ≤ 8 * length bytes →
    Takes (low_bits width word) (place_in bytes at) (place_in bytes (at + width))

-- A number in a fixed number of bits.
pub record FixedAt (bytes : List ℕ) (width : ℕ) (at : ℕ) (number : ℕ) : Type 0 where
  pub reads : Fixed width number (place_in bytes at) (place_in bytes (at + width))
  pub within : at + width ≤ 8 * length bytes

-- a number, or none where it is above 64 bits
abbrev pub Holds : Option ℕ → ℕ → Type 0
Holds None number = 2 ^ 64 ≤ number
Holds (Some value) number = (value ≡ number) × (number < 2 ^ 64)

-- A number in chunks.
pub record NumberAt (bytes : List ℕ) (unit : ℕ) (at : ℕ) (found : Number) : Type 0 where
  pub number : ℕ
  pub reads : Chunked unit number (place_in bytes at) (place_in bytes found.to)
  pub holds : Holds found.value number
  pub forward : at + (unit + 1) ≤ found.to
  pub within : found.to ≤ 8 * length bytes

-- Some chunks of a number are read, and this is what they make, up to 2^64.
pub record ChunksAt (bytes : List ℕ) (unit : ℕ) (from : ℕ) (at : ℕ) (sum : ℕ) (shift : ℕ) : Type 0 where
  pub low : ℕ
  pub places : ℕ
  pub sum-is : sum ≡ min low (2 ^ 64)
  pub shift-is : shift ≡ min places 64
  pub onward : (number : ℕ) (to : Place) → Chunked unit number (place_in bytes at) to → Chunked unit (low + 2 ^ places * number) (place_in bytes from) to
  pub back : (number : ℕ) (to : Place) → Chunked unit number (place_in bytes from) to → (rest : ℕ) × Chunked unit rest (place_in bytes at) to
  pub forward : from ≤ at
  pub within : at ≤ 8 * length bytes

-- The next place on a word.
pub record AlignedAt (bytes : List ℕ) (at : ℕ) (to : ℕ) : Type 0 where
  pub reads : Aligned (place_in bytes at) (place_in bytes to)
  pub on_word : to % 32 ≡ 0
  pub forward : at ≤ to
  pub within : to ≤ 8 * length bytes

-- values, or none where one is above 64 bits
abbrev pub HoldAll : Option (List ℕ) → List ℕ → Type 0
HoldAll None values = All (λ value. value < 2 ^ 64) values → ⊥
HoldAll (Some list) values = (list ≡ values) × All (λ value. value < 2 ^ 64) values

-- So many values of a record, each of any size.
pub record SkippedAt (bytes : List ℕ) (count : ℕ) (at : ℕ) (to : ℕ) : Type 0 where
  pub values : List ℕ
  pub count-is : length values ≡ count
  pub reads : Vbrs 6 values (place_in bytes at) (place_in bytes to)
  pub forward : at ≤ to
  pub within : to ≤ 8 * length bytes

-- So many values of a record, each of at most 64 bits.
pub record ListAt (bytes : List ℕ) (count : ℕ) (at : ℕ) (list : List ℕ) (to : ℕ) : Type 0 where
  pub count-is : length list ≡ count
  pub reads : Vbrs 6 list (place_in bytes at) (place_in bytes to)
  pub fit : All (λ value. value < 2 ^ 64) list
  pub forward : at ≤ to
  pub within : to ≤ 8 * length bytes

-- So many values of a record.
pub record ValuesAt (bytes : List ℕ) (count : ℕ) (at : ℕ) (found : ValuesRead) : Type 0 where
  pub values : List ℕ
  pub count-is : length values ≡ count
  pub reads : Vbrs 6 values (place_in bytes at) (place_in bytes found.to)
  pub hold : HoldAll found.list values
  pub forward : at ≤ found.to
  pub within : found.to ≤ 8 * length bytes

-- No values of this number are read at a place.
abbrev pub NoValues : List ℕ → ℕ → ℕ → Type 0
NoValues bytes count at = (values : List ℕ) (to : Place) → length values ≡ count → Vbrs 6 values (place_in bytes at) to → ⊥

-- A number of values, where so many may be in these bits, or none where there are more.
abbrev pub CountWithin : Option ℕ → ℕ → Option ℕ → Type 0
CountWithin count bits None = (number : ℕ) → Holds count number → bits < 6 * number
CountWithin count bits (Some found) = (count ≡ Some found) × (6 * found ≤ bits)

-- A record behind its abbreviation id.
pub record RecordAt (bytes : List ℕ) (at : ℕ) (found : RecordRead) : Type 0 where
  pub code : ℕ
  pub values : List ℕ
  pub reads : layout (raw_record code values) (place_in bytes at) (place_in bytes found.to)
  pub holds : Holds found.code code
  pub hold : HoldAll found.values values
  pub forward : at < found.to
  pub within : found.to ≤ 8 * length bytes

-- No record is read at a place.
abbrev pub NoRecord : List ℕ → ℕ → Type 0
NoRecord bytes at = (code : ℕ) (values : List ℕ) (to : Place) → layout (raw_record code values) (place_in bytes at) to → ⊥

-- The two ends of a program in memory, and the words on what one call of an end does.
use Rattle.std.specs.Prelude.{◌≡◌, ℕ, ◌+◌, ◌-◌, ◌<◌, ◌≤◌, ◌⊎◌, min, List, ◌++◌, length, drop, take, Contains, MatchResult}
use Rattle.std.specs.declared.result.Result.{Result}
use Rattle.std.specs.declared.option.Option.{Option}
use Rattle.std.specs.Io.KnownBytes.{Appends, Consumes}
use Rattle.base_core.specs.Counts.{next_count}

-- a call that gives a length leaves the buffer past that length as it was, and one that fails leaves the whole
abbrev pub LeavesRest : {E : Type 0} → Result ℕ E → List ℕ → List ℕ → Type 0
LeavesRest r old new = MatchResult r (λ n. drop n new ≡ drop n old) (λ _. new ≡ old)

-- a call raises a number by the length that it gives, and one that fails leaves it
abbrev pub RaisesBy : {E : Type 0} → Result ℕ E → ℕ → ℕ → Type 0
RaisesBy r old new = MatchResult r (λ n. new ≡ old + n) (λ _. new ≡ old)

-- some bytes were taken from the front of what was left, and counted
abbrev pub TakesFront : Option (List ℕ) → Option (List ℕ) → ℕ → ℕ → Type 0
TakesFront left_old left_new taken_old taken_new =
    (bytes : List ℕ) × Consumes left_old left_new bytes × (taken_new ≡ taken_old + length bytes)

-- a front of the bytes, and not all of them, was appended
abbrev pub AppendsPart : Option (List ℕ) → Option (List ℕ) → List ℕ → Type 0
AppendsPart old new bytes = (n : ℕ) × (n < length bytes) × Appends old new (take n bytes)

-- a source over bytes in memory: what is left, how many bytes were taken, how many it gives in a call,
-- the numbers of the calls that fail, how many calls were made, and how many of them failed
pub record MemoryInput : Type 0 where
  pub left : List ℕ
  pub taken : ℕ
  pub piece : ℕ
  pub failing : List ℕ
  pub calls : ℕ
  pub faults : ℕ

-- after a call that gave n bytes
abbrev pub input_given : MemoryInput → ℕ → MemoryInput
input_given s n = record s { left = drop n s.left; taken = s.taken + n; calls = next_count s.calls }

-- after a call that failed
abbrev pub input_failed : MemoryInput → MemoryInput
input_failed s = record s { calls = next_count s.calls; faults = next_count s.faults }

-- how many bytes a call gives that doesn't fail and has room for `room`
abbrev pub input_length : MemoryInput → ℕ → ℕ
input_length s room = min (min room s.piece) (length s.left)

-- a source over bytes in memory that never fails: what is left, and how many bytes were taken
pub record PlainInput : Type 0 where
  pub left : List ℕ
  pub taken : ℕ

-- a sink in memory: what was written, how many bytes it holds at most, how many it takes in a call,
-- the numbers of the calls that fail, how many calls were made, and how many of them failed
pub record MemoryOutput : Type 0 where
  pub written : List ℕ
  pub room : ℕ
  pub piece : ℕ
  pub failing : List ℕ
  pub calls : ℕ
  pub faults : ℕ

-- why a call on a sink in memory fails: its number is listed, or there is no room for a byte that it was given
abbrev pub OutputFails : MemoryOutput → List ℕ → Type 0
OutputFails s bytes = Contains s.failing s.calls ⊎ ((0 < length bytes) × (s.room ≤ length s.written))

-- how many bytes a call takes that doesn't fail and is given `given`
abbrev pub output_length : MemoryOutput → ℕ → ℕ
output_length s given = min (min given s.piece) (s.room - length s.written)

-- after a call that took these bytes
abbrev pub output_given : MemoryOutput → List ℕ → MemoryOutput
output_given s bytes = record s { written = s.written ++ bytes; calls = next_count s.calls }

-- after a call that failed
abbrev pub output_failed : MemoryOutput → MemoryOutput
output_failed s = record s { calls = next_count s.calls; faults = next_count s.faults }

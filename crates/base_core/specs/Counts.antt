-- Counts of calls and of faults, which fit 64 bits.
use Rattle.std.specs.Prelude.{ℕ, ◌+◌, ◌<◌, ◌≤◌, ◌⊎◌, min}

-- where a count stands still: 2^64 - 1
abbrev pub last_count : ℕ
last_count = 18446744073709551615

-- one more, as far as a count goes
abbrev pub next_count : ℕ → ℕ
next_count n = min (n + 1) last_count

-- a count rose, or stands at its last value
abbrev pub HasRisen : ℕ → ℕ → Type 0
HasRisen old new = (old < new) ⊎ (last_count ≤ new)

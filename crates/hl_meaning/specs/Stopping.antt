-- Sums that stop.
use Rattle.std.specs.Prelude.{ℕ, min}

-- where a sum stops: 2^32
abbrev pub stopped : ℕ → ℕ
stopped n = min n 4294967296

-- How long a list may be.
use Rattle.std.specs.Prelude.{ℕ}

-- the greatest number of parts in a list: 2^31 - 1
abbrev pub most_parts : ℕ
most_parts = 2147483647

-- How many words there are, as it is held.
use Rattle.std.specs.Prelude.{ℕ, ◌^◌, nat_lt, if◌then◌else◌}
use Rattle.hl_values.specs.declared.words.WordCount.{WordCount}
use Rattle.hl_values.specs.declared.words.WordCount.TheVariants.{Few, Many}

abbrev pub counted : ℕ → WordCount
counted words = if nat_lt words (2 ^ 64) then Few words else Many

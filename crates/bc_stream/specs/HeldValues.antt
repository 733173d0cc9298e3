-- The values of a record, as they are held.
use Rattle.std.specs.Prelude.{ℕ, ◌≤◌, List, take}
use Rattle.bc_stream.specs.declared.values.Held.{Held}
use Rattle.bc_stream.specs.declared.values.Held.TheVariants.{Few, Many}

-- the values that are held
abbrev pub values_held : Held → List ℕ
values_held (Few count places) = take count places
values_held (Many list) = list

-- There are no more values in place than places.
abbrev pub IsHeld : Held → Type 0
IsHeld (Few count places) = count ≤ 4
IsHeld (Many list) = Unit {0}

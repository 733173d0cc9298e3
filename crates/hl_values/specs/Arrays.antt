-- Arrays of what may not be known.
use Rattle.std.specs.Prelude.{ℕ, Option, option_map, option_and_then}
use Rattle.hl_meaning.specs.Types.{Ty, array_type}

-- an array of a type with a length, where both are known
abbrev pub array_if : (length : Option ℕ) → (element : Option Ty) → Option Ty
array_if length element = option_and_then (λ n. option_map (λ ty. array_type ty n) element) length

-- The parts of types that names behind a `.` and indexes look for.
use Rattle.std.specs.Prelude.{ℕ, Option, None, Some}
use Rattle.hl_meaning.specs.Types.{Ty, array_type, struct_type, vector_type}

-- the number of the struct that a type is
abbrev pub struct_number : Ty → Option ℕ
struct_number (struct_type number) = Some number
struct_number _ = None

-- how many elements an array or a vector has
abbrev pub element_count : Ty → Option ℕ
element_count (array_type element size) = Some size
element_count (vector_type kind size) = Some size
element_count _ = None

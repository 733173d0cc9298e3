-- The innermost struct of each struct. One whose only member is a struct, alone or in arrays of one element, has the
-- words of that member and no others.
use Rattle.std.specs.Prelude.{ℕ, ◌==◌, if◌then◌else◌, List, [], ◌∷◌, ◌++◌, Option, None, Some, length, option_and_then, slice_get, unwrap_or}
use Rattle.hl_meaning.specs.Types.{Ty, array_type, scalar_type, struct_type, vector_type, void_type}
use Rattle.hl_values.specs.StructTables.{Member, Members}
use Rattle.hl_values.specs.Views.{plain_type_if}

-- the struct that a type is, alone or in arrays of one element
abbrev pub lone_struct : Ty → Option ℕ
lone_struct (struct_type number) = Some number
lone_struct (array_type element count) = if count == 1 then lone_struct element else None
lone_struct void_type = None
lone_struct (scalar_type kind) = None
lone_struct (vector_type kind size) = None

abbrev pub lone_struct_if : Option Ty → Option ℕ
lone_struct_if ty = option_and_then lone_struct ty

-- such a struct of an only member
abbrev pub lone_member : List Member → Option ℕ
lone_member [] = None
lone_member (m ∷ []) = lone_struct_if (plain_type_if m.1)
lone_member (m ∷ n ∷ members) = None

-- the innermost struct of a struct behind others
abbrev pub innermost_in : List ℕ → List Member → ℕ
innermost_in before members = unwrap_or (option_and_then (slice_get before) (lone_member members)) (length before)

abbrev pub innermosts_behind : List ℕ → List Members → List ℕ
innermosts_behind before [] = before
innermosts_behind before (d ∷ structs) = innermosts_behind (before ++ innermost_in before d.1 ∷ []) structs

abbrev pub innermosts : List Members → List ℕ
innermosts structs = innermosts_behind [] structs

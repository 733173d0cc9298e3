-- The plain data of a program that is held, and what clauses say of it.
use Rattle.std.specs.Prelude.{◌≡◌, ℕ, ◌<◌, List, [], length, Some, slice_get}
use Rattle.std.specs.Option.{option_map_or}
use Rattle.hl_meaning.specs.declared.program.Program.{Program}
use Rattle.hl_meaning.specs.Types.{struct_type}
use Rattle.hl_meaning.specs.Programs.{Member, StructDef}
use Rattle.hl_meaning.specs.Programs as plain
use Rattle.hl_meaning.specs.Layout.{member_offset, words_of}
use Rattle.hl_meaning.specs.Views.{program_of}

abbrev pub plain_program : Program → plain.Program
plain_program p = program_of p.structs p.resources p.shared p.constants p.functions p.entry p.threads

-- each struct has its words
abbrev pub HasWords : List StructDef → Type 0
HasWords structs = (number : ℕ) (d : StructDef) → slice_get structs number ≡ Some d → d.words ≡ words_of structs (struct_type number)

-- the members of the struct of a number
abbrev pub members_of : plain.Program → ℕ → List Member
members_of p number = option_map_or (λ d. d.members) (slice_get p.structs number) []

abbrev pub HasMember : plain.Program → (structure member : ℕ) → Type 0
HasMember p structure member = member < length (members_of p structure)

abbrev pub offset_in : plain.Program → (structure member : ℕ) → ℕ
offset_in p structure member = member_offset p.structs (members_of p structure) member

-- How many words a type has, and where the parts of a struct stand. A scalar is one word of 32 bits, and there is no
-- padding. The order of the parts is that of HLSL ("Types", "Structures"); the words are this project's own.
use Rattle.std.specs.Prelude.{ℕ, zero, suc, ◌*◌, List, [], ◌∷◌, ◌++◌, replicate, sum_by, take, unwrap_or, slice_get}
use Rattle.hl_meaning.specs.declared.ty.Kind.{Kind}
use Rattle.hl_meaning.specs.Types.{Ty, array_type, scalar_type, struct_type, vector_type, void_type}
use Rattle.hl_meaning.specs.Programs.{Member, StructDef}

-- the words of a type, given the words of each struct
abbrev pub words_in : List ℕ → Ty → ℕ
words_in structs void_type = 0
words_in structs (scalar_type kind) = 1
words_in structs (vector_type kind size) = size
words_in structs (array_type element length) = length * words_in structs element
words_in structs (struct_type number) = unwrap_or (slice_get structs number) 0

-- the words of members, one after another
abbrev pub member_words : List ℕ → List Member → ℕ
member_words structs members = sum_by (λ m. words_in structs m.ty) members

-- The words of each struct, behind those of the structs before them. A member names earlier structs alone.
abbrev pub struct_words_after : List ℕ → List StructDef → List ℕ
struct_words_after before [] = before
struct_words_after before (d ∷ structs) = struct_words_after (before ++ member_words before d.members ∷ []) structs

abbrev pub struct_words : List StructDef → List ℕ
struct_words structs = struct_words_after [] structs

-- the words of a type
unfoldable pub words_of : List StructDef → Ty → ℕ
words_of structs ty = words_in (struct_words structs) ty

-- the offset of a member: the words of the members before it
unfoldable pub member_offset : List StructDef → List Member → ℕ → ℕ
member_offset structs members number = member_words (struct_words structs) (take number members)

-- the one list so many times
abbrev pub repeated : ℕ → List Kind → List Kind
repeated zero kinds = []
repeated (suc count) kinds = kinds ++ repeated count kinds

-- the kind of each word of a type, given those of each struct
abbrev pub kinds_in : List (List Kind) → Ty → List Kind
kinds_in structs void_type = []
kinds_in structs (scalar_type kind) = kind ∷ []
kinds_in structs (vector_type kind size) = replicate size kind
kinds_in structs (array_type element length) = repeated length (kinds_in structs element)
kinds_in structs (struct_type number) = unwrap_or (slice_get structs number) []

abbrev pub member_kinds : List (List Kind) → List Member → List Kind
member_kinds structs [] = []
member_kinds structs (m ∷ members) = kinds_in structs m.ty ++ member_kinds structs members

abbrev pub struct_kinds_after : List (List Kind) → List StructDef → List (List Kind)
struct_kinds_after before [] = before
struct_kinds_after before (d ∷ structs) = struct_kinds_after (before ++ member_kinds before d.members ∷ []) structs

-- the kind of each word of a type, in order
unfoldable pub kinds_of : List StructDef → Ty → List Kind
kinds_of structs ty = kinds_in (struct_kinds_after [] structs) ty

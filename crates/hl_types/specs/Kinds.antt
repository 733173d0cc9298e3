-- The kinds of the words of types, by the members of the structs that are held.
use Rattle.std.specs.Prelude.{ℕ, ◌==◌, if◌then◌else◌, Bool, false, List, [], ◌∷◌, ◌++◌, Option, None, Some, length, map, option_map, slice_get, take, unwrap_or}
use Rattle.hl_meaning.specs.declared.ty.Kind.{Kind}
use Rattle.hl_meaning.specs.Layout.{kinds_in, kinds_of}
use Rattle.hl_meaning.specs.Types.{Ty, void_type}
use Rattle.hl_rules.specs.Statements.{struct_defs}
use Rattle.hl_values.specs.StructTables.{Member, Members, plain_structs}
use Rattle.hl_values.specs.Views.{plain_type_if}

-- the types of members; one without a type is no value, which has no word
abbrev pub member_types : List Member → List Ty
member_types members = map (λ m. unwrap_or (plain_type_if m.1) void_type) members

abbrev pub members_at : List Members → (number : ℕ) → List Member
members_at structs number = unwrap_or (option_map (λ d. d.1) (slice_get structs number)) []

-- the kinds of types one behind the other
abbrev pub types_kinds : List (List Kind) → List Ty → List Kind
types_kinds kinds [] = []
types_kinds kinds (ty ∷ types) = kinds_in kinds ty ++ types_kinds kinds types

-- what each struct has by the types of its members and by what the structs before it have, behind those before them
abbrev pub each_behind : {A : Type 0} → (List A → List Ty → A) → List A → List Members → List A
each_behind has before [] = before
each_behind has before (d ∷ structs) = each_behind has (before ++ has before (member_types d.1) ∷ []) structs

-- what the structs before a number have
abbrev pub each_front : {A : Type 0} → (List A → List Ty → A) → List Members → (number : ℕ) → List A
each_front has structs number = each_behind has [] (take number structs)

-- what the struct of a number has
abbrev pub one_at : {A : Type 0} → (List A → List Ty → A) → List Members → (number : ℕ) → A
one_at has structs number = has (each_front has structs number) (member_types (members_at structs number))

-- the kinds of each struct, behind those of the structs before them
abbrev pub kinds_behind : List (List Kind) → List Members → List (List Kind)
kinds_behind before structs = each_behind types_kinds before structs

-- those of the structs before a number
abbrev pub kinds_front : List Members → (number : ℕ) → List (List Kind)
kinds_front structs number = each_front types_kinds structs number

-- the kinds of the struct of a number
abbrev pub struct_kinds : List Members → (number : ℕ) → List Kind
struct_kinds structs number = one_at types_kinds structs number

-- whether words are known and so many
abbrev pub has_count : (count : ℕ) → Option ℕ → Bool
has_count count None = false
has_count count (Some words) = count == words

-- the kind of each word of a type, as the program will have them
abbrev pub type_kinds : List Members → Ty → List Kind
type_kinds structs ty = kinds_of (struct_defs (plain_structs structs)) ty

-- these, where there are so many
abbrev pub kinds_if : (count : ℕ) → List Kind → Option (List Kind)
kinds_if count kinds = if count == length kinds then Some kinds else None

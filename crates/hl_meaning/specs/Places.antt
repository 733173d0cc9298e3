-- The types of places, and which of them may be written (HLSL, "Expressions").
use Rattle.std.specs.Prelude.{ℕ, ◌==◌, ◌&&◌, not, Bool, true, false, if◌then◌else◌, nat_le, nat_lt, length, List, [], ◌∷◌, Option, Some, None, option_map, option_and_then, slice_get}
use Rattle.std.specs.List.{list_all, list_any}
use Rattle.hl_meaning.specs.Types.{Ty, array_type, components_type, scalar_type, struct_type, vector_type}
use Rattle.hl_meaning.specs.Trees.{Expr, Location, PathPart, PathParts, Root, a_location, an_expr, constant_root, element_root, index_part, literal_form, member_part, more_parts, no_parts, shared_root, swizzle_part, variable_root}
use Rattle.hl_meaning.specs.Programs.{Constant, FunctionDef, Resource, StructDef, Variable}

-- What can be named in a function: the structs, buffers, groupshared variables and constants of the program, the
-- functions before it, and its own variables; and the type of its result.
pub record Scope : Type 0 where
  pub structs : List StructDef
  pub resources : List Resource
  pub shared : List Variable
  pub constants : List Constant
  pub functions : List FunctionDef
  pub variables : List Variable
  pub result : Ty

-- the type of the variable of a number
abbrev pub variable_type : List Variable → ℕ → Option Ty
variable_type variables number = option_map (λ v. v.ty) (slice_get variables number)

-- the type of the elements of a structured buffer
abbrev pub element_type : Resource → Option Ty
element_type r = if r.raw then None else Some r.element

abbrev pub root_type : Scope → Root → Option Ty
root_type s (variable_root number) = variable_type s.variables number
root_type s (constant_root number) = option_map (λ c. c.variable.ty) (slice_get s.constants number)
root_type s (shared_root number) = variable_type s.shared number
root_type s (element_root resource index) = option_and_then element_type (slice_get s.resources resource)

-- the type of the member of a number of a struct
abbrev pub member_type : List StructDef → (struct member : ℕ) → Option Ty
member_type structs struct member =
    option_and_then (λ d. option_map (λ m. m.ty) (slice_get d.members member)) (slice_get structs struct)

-- An index that is a constant number is a literal, and less than the length.
abbrev pub is_index_within : ℕ → Expr → Bool
is_index_within length (an_expr ty at (literal_form word)) = nat_lt word length
is_index_within length _ = true

abbrev pub is_literal : Expr → Bool
is_literal (an_expr ty at (literal_form word)) = true
is_literal _ = false

-- the type of a swizzle of components of a kind: from 1 to 4 letters, each a component
abbrev pub swizzle_type : (size : ℕ) → List ℕ → Ty → Option Ty
swizzle_type size letters ty =
    if nat_le 1 (length letters) && (nat_le (length letters) 4 && list_all (λ letter. nat_lt letter size) letters) then Some ty else None

-- the type that one step leads to
abbrev pub part_type : List StructDef → Ty → PathPart → Option Ty
part_type structs (struct_type struct) (member_part member) = member_type structs struct member
part_type structs (array_type element length) (index_part index) = if is_index_within length index then Some element else None
part_type structs (vector_type kind size) (index_part index) = if is_index_within size index then Some (scalar_type kind) else None
part_type structs (vector_type kind size) (swizzle_part letters) = swizzle_type size letters (components_type kind (length letters))
part_type structs (scalar_type kind) (swizzle_part letters) = swizzle_type 1 letters (components_type kind (length letters))
part_type structs _ _ = None

-- a swizzle of more than one letter
abbrev pub is_longer_swizzle : PathPart → Bool
is_longer_swizzle (swizzle_part letters) = nat_lt 1 (length letters)
is_longer_swizzle _ = false

abbrev pub is_end : PathParts → Bool
is_end no_parts = true
is_end (more_parts first rest) = false

-- the type that steps lead to; behind a swizzle of more than one letter there is none
abbrev pub path_type : List StructDef → Ty → PathParts → Option Ty
path_type structs ty no_parts = Some ty
path_type structs ty (more_parts first rest) =
    if is_longer_swizzle first && not (is_end rest) then None
    else option_and_then (λ t. path_type structs t rest) (part_type structs ty first)

-- the type of the place of a root and steps
abbrev pub reached_type : Scope → Root → PathParts → Option Ty
reached_type s root parts = option_and_then (λ t. path_type s.structs t parts) (root_type s root)

-- whether each index is a literal
abbrev pub has_literal_indexes : PathParts → Bool
has_literal_indexes no_parts = true
has_literal_indexes (more_parts (index_part index) rest) = is_literal index && has_literal_indexes rest
has_literal_indexes (more_parts first rest) = has_literal_indexes rest

-- whether a buffer may be written
abbrev pub is_writable : Option Resource → Bool
is_writable None = false
is_writable (Some r) = r.class == 1

-- What is written stands in no constant, and in no buffer but a writable one.
abbrev pub is_writable_root : Scope → Root → Bool
is_writable_root s (variable_root number) = true
is_writable_root s (constant_root number) = false
is_writable_root s (shared_root number) = true
is_writable_root s (element_root resource index) = is_writable (slice_get s.resources resource)

-- An atomic operation works on groupshared variables and on writable buffers.
abbrev pub is_atomic_root : Scope → Root → Bool
is_atomic_root s (variable_root number) = false
is_atomic_root s (constant_root number) = false
is_atomic_root s (shared_root number) = true
is_atomic_root s (element_root resource index) = is_writable (slice_get s.resources resource)

-- whether no number stands twice
abbrev pub is_without_repeats : List ℕ → Bool
is_without_repeats [] = true
is_without_repeats (x ∷ xs) = not (list_any (λ y. x == y) xs) && is_without_repeats xs

-- whether no swizzle has a letter twice
abbrev pub has_distinct_letters : PathParts → Bool
has_distinct_letters no_parts = true
has_distinct_letters (more_parts (swizzle_part letters) rest) = is_without_repeats letters && has_distinct_letters rest
has_distinct_letters (more_parts first rest) = has_distinct_letters rest

abbrev pub is_writable_place : Scope → Location → Bool
is_writable_place s (a_location ty root parts) = is_writable_root s root && has_distinct_letters parts

abbrev pub is_atomic_place : Scope → Location → Bool
is_atomic_place s (a_location ty root parts) = is_atomic_root s root

-- whether a buffer is a byte-address buffer
abbrev pub is_raw : Option Resource → Bool
is_raw None = false
is_raw (Some r) = r.raw

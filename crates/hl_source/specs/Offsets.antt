-- Where a place stands (HLSL, "Expressions"): its indexes, members and swizzles. The offset of a place, and that it is
-- wrapped, are this project's own.
use Rattle.std.specs.Prelude.{ℕ, List, [], ◌∷◌, drop, slice_get, slice_index, slice_index_or, take, unwrap_or, Option, Some, None, option_and_then}
use Rattle.lane_core.specs.declared.event.Slot.{Slot}
use Rattle.hl_meaning.specs.Types.{Ty, array_type, scalar_type, struct_type, void_type}
use Rattle.hl_meaning.specs.Trees.{Expr, Location, PathParts, Root, a_location, an_expr, constant_root, element_root, index_part, literal_form, member_part, more_parts, no_parts, shared_root, swizzle_part, variable_root}
use Rattle.hl_meaning.specs.Programs.{Member, StructDef}
use Rattle.hl_meaning.specs.Layout.{words_of}
use Rattle.hl_meaning.specs.Places.{root_type}
use Rattle.lane_core.specs.Words.{wrapping_add, wrapping_mul}
use Rattle.hl_source.specs.Operations.{component_kind, picked}
use Rattle.hl_source.specs.State.{Context}

-- Where steps lead: the type of what stands there, the word that it begins at, and, behind a swizzle of more than one
-- letter, its letters. Such a swizzle stands last, and the type and the word are those of the vector or the scalar
-- before it.
pub record Reached : Type 0 where
  pub ty : Ty
  pub offset : ℕ
  pub letters : List ℕ

-- the start of something of a type
abbrev pub start_of : Ty → Reached
start_of ty = record { ty = ty; offset = 0; letters = [] }

-- something of a type, which begins so many words behind what was reached
abbrev pub further : Reached → (ty : Ty) → (words : ℕ) → Reached
further from ty words = record { ty = ty; offset = wrapping_add from.offset words; letters = [] }

-- the member of a number of a struct; no well-formed program names one that isn't there
abbrev pub member_of : List StructDef → Ty → (number : ℕ) → Option Member
member_of structs (struct_type struct) number = option_and_then (λ d. slice_get d.members number) (slice_get structs struct)
member_of structs _ number = None

-- the type of the elements of an array, or of the components of a vector
abbrev pub element_of : Ty → Ty
element_of (array_type element length) = element
element_of ty = scalar_type (component_kind ty)

-- a member stands at its offset in its struct; no well-formed program steps to none
abbrev pub step_to_member : Reached → Option Member → Reached
step_to_member from None = from
step_to_member from (Some m) = further from m.ty m.offset

-- an element stands at its index times the words of an element
abbrev pub step_to_element : List StructDef → Reached → (index : ℕ) → Reached
step_to_element structs from index =
    further from (element_of from.ty) (wrapping_mul index (words_of structs (element_of from.ty)))

-- A swizzle of one letter leads to the component of the letter; a longer one stays where it stands.
abbrev pub step_to_letters : Reached → (letters : List ℕ) → Reached
step_to_letters from (letter ∷ []) = further from (scalar_type (component_kind from.ty)) letter
step_to_letters from letters = record from { letters = letters }

-- where steps lead to, with the words of the indexes in them
abbrev pub reached : List StructDef → Reached → PathParts → (indexes : List ℕ) → Reached
reached structs from no_parts indexes = from
reached structs from (more_parts (member_part number) rest) indexes =
    reached structs (step_to_member from (member_of structs from.ty number)) rest indexes
reached structs from (more_parts (index_part index) rest) indexes =
    reached structs (step_to_element structs from (slice_index indexes 0)) rest (drop 1 indexes)
reached structs from (more_parts (swizzle_part letters) rest) indexes =
    reached structs (step_to_letters from letters) rest indexes

-- what a place stands in
pub data Holder : Type 0 where
  in_variable : (number : ℕ) → Holder
  in_constant : (number : ℕ) → Holder
  in_shared : (number : ℕ) → Holder
  in_element : (slot : Slot) (index : ℕ) → Holder

-- a place: what it stands in, and where in it its steps lead
pub record Place : Type 0 where
  pub holder : Holder
  pub reached : Reached

-- the slot of a buffer; no well-formed program names one that isn't there
abbrev pub slot_of : Context → (resource : ℕ) → Slot
slot_of c resource = slice_index_or c.slots resource (record { class = 0; space = 0; register = 0 })

-- what a root is, with the words of the indexes of its place: the first one is that of the element, where there is one
abbrev pub holder_of : Context → Root → (indexes : List ℕ) → Holder
holder_of c (variable_root number) indexes = in_variable number
holder_of c (constant_root number) indexes = in_constant number
holder_of c (shared_root number) indexes = in_shared number
holder_of c (element_root resource index) indexes = in_element (slot_of c resource) (slice_index indexes 0)

-- the indexes of the steps of a place: all but that of an element
abbrev pub indexes_of_steps : Root → (indexes : List ℕ) → List ℕ
indexes_of_steps (element_root resource index) indexes = drop 1 indexes
indexes_of_steps _ indexes = indexes

-- the type of a root; no well-formed program has a root without one
abbrev pub type_of_root : Context → Root → Ty
type_of_root c root = unwrap_or (root_type c.scope root) void_type

-- the place of a location, with the words of its indexes
abbrev pub place_of : Context → Location → (indexes : List ℕ) → Place
place_of c (a_location ty root parts) indexes = record {
  holder = holder_of c root indexes;
  reached = reached c.scope.structs (start_of (type_of_root c root)) parts (indexes_of_steps root indexes);
}

-- the word of a literal; no well-formed program picks by an index that is none
abbrev pub literal_word : Expr → ℕ
literal_word (an_expr ty _ (literal_form word)) = word
literal_word _ = 0

-- the words of indexes that are literals
abbrev pub literal_indexes : PathParts → List ℕ
literal_indexes no_parts = []
literal_indexes (more_parts (index_part index) rest) = literal_word index ∷ literal_indexes rest
literal_indexes (more_parts part rest) = literal_indexes rest

-- what steps pick of the words of a value
abbrev pub picked_reached : List StructDef → Reached → List ℕ → List ℕ
picked_reached structs from words = picked from.letters (take (words_of structs from.ty) (drop from.offset words))

-- Members, elements and components of a value are picked like those of a place. Its indexes are literals.
abbrev pub picked_words : List StructDef → Ty → PathParts → List ℕ → List ℕ
picked_words structs ty parts words =
    picked_reached structs (reached structs (start_of ty) parts (literal_indexes parts)) words

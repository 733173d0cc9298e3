-- The block TYPE_NEW, id 17: the type table (LLVM Bitcode File Format, "TYPE_BLOCK Contents").
use Rattle.std.specs.Prelude.{◌≡◌, ℕ, List, [], ◌∷◌, map, length, All, Some}
use Rattle.ir_core.specs.declared.module.Ty.{Ty}
use Rattle.ir_core.specs.declared.module.Ty.TheVariants.{Void, Metadata, Int, Pointer, Struct, Function}
use Rattle.bc_stream.specs.Blocks.{Contents}
use Rattle.bc_records.specs.Entries.{Entry, entry, entries_in, block_ids, IsText}

pub data TypeRecord : Type 0 where
  number_of_entries : (n : ℕ) → TypeRecord
  void_type : TypeRecord
  integer_type : (width : ℕ) → TypeRecord
  pointer_type : (to space : ℕ) → TypeRecord
  metadata_type : TypeRecord
  struct_name : (name : List ℕ) → TypeRecord
  struct_type : (parts : List ℕ) → TypeRecord
  function_type : (result : ℕ) (params : List ℕ) → TypeRecord

-- NUMENTRY 1, VOID 2, INTEGER 7, POINTER 8, METADATA 16, STRUCT_NAME 19, STRUCT_NAMED 20 (not packed),
-- FUNCTION 21 (without variable arguments)
abbrev pub type_entry : TypeRecord → Entry
type_entry (number_of_entries n) = entry 1 (n ∷ [])
type_entry void_type = entry 2 []
type_entry (integer_type width) = entry 7 (width ∷ [])
type_entry (pointer_type to space) = entry 8 (to ∷ space ∷ [])
type_entry metadata_type = entry 16 []
type_entry (struct_name name) = entry 19 name
type_entry (struct_type parts) = entry 20 (0 ∷ parts)
type_entry (function_type result params) = entry 21 (0 ∷ result ∷ params)

-- the entries in order; a struct takes the name that stands last before it, if no struct has taken it
abbrev pub table_of : (name : List ℕ) → List TypeRecord → List Ty
table_of name [] = []
table_of name (number_of_entries n ∷ rest) = table_of name rest
table_of name (void_type ∷ rest) = Void ∷ table_of name rest
table_of name (integer_type width ∷ rest) = Int width ∷ table_of name rest
table_of name (pointer_type to space ∷ rest) = Pointer to space ∷ table_of name rest
table_of name (metadata_type ∷ rest) = Metadata ∷ table_of name rest
table_of name (struct_name next ∷ rest) = table_of next rest
table_of name (struct_type parts ∷ rest) = Struct (Some name) parts ∷ table_of [] rest
table_of name (function_type result params ∷ rest) = Function result params ∷ table_of name rest

-- the numbers of entries that are stated
abbrev pub stated_numbers : List TypeRecord → List ℕ
stated_numbers [] = []
stated_numbers (number_of_entries n ∷ rest) = n ∷ stated_numbers rest
stated_numbers (_ ∷ rest) = stated_numbers rest

abbrev pub IsTypeText : TypeRecord → Type 0
IsTypeText (struct_name name) = IsText name
IsTypeText _ = Unit {0}

-- the block holds a type table, and states its number of entries once
pub record TypesRecorded (block : Contents) (types : List Ty) : Type 0 where
  pub records : List TypeRecord
  pub spelled : entries_in block ≡ map type_entry records
  pub no_blocks : block_ids block ≡ []
  pub entries : table_of [] records ≡ types
  pub number : stated_numbers records ≡ length types ∷ []
  pub texts : All IsTypeText records

-- The blocks CONSTANTS, id 11: constants of the module or of a body (LLVM Bitcode File Format,
-- "CONSTANTS_BLOCK Contents").
use Rattle.std.specs.Prelude.{◌≡◌, ℕ, ◌-◌, ◌/◌, ◌%◌, ◌^◌, ◌<◌, ◌==◌, if◌then◌else◌, ℤ, pos, negsuc, List, [], ◌∷◌, map, All, flat_map}
use Rattle.ir_core.specs.declared.module.Const.{Const}
use Rattle.ir_core.specs.declared.module.ConstValue.TheVariants.{Null, Undef, Int}
use Rattle.bc_stream.specs.Blocks.{Contents}
use Rattle.bc_records.specs.Entries.{Entry, entry, entries_in, block_ids}

pub data ConstantRecord : Type 0 where
  set_type : (ty : ℕ) → ConstantRecord
  null_constant : ConstantRecord
  undef_constant : ConstantRecord
  integer_constant : (number : ℕ) → ConstantRecord

-- SETTYPE 1, NULL 2, UNDEF 3, INTEGER 4
abbrev pub constant_entry : ConstantRecord → Entry
constant_entry (set_type ty) = entry 1 (ty ∷ [])
constant_entry null_constant = entry 2 []
constant_entry undef_constant = entry 3 []
constant_entry (integer_constant number) = entry 4 (number ∷ [])

-- a signed value: its lowest bit is the sign, and the others are its size; a zero with a sign is -2^63
abbrev pub signed_value : ℕ → ℤ
signed_value n = if n % 2 == 0 then pos (n / 2) else if n == 1 then negsuc (2 ^ 63 - 1) else negsuc (n / 2 - 1)

-- the constants in order, each of the type that was set last
abbrev pub constants_of : (ty : ℕ) → List ConstantRecord → List Const
constants_of ty [] = []
constants_of ty (set_type next ∷ rest) = constants_of next rest
constants_of ty (null_constant ∷ rest) = record { ty = ty; value = Null } ∷ constants_of ty rest
constants_of ty (undef_constant ∷ rest) = record { ty = ty; value = Undef } ∷ constants_of ty rest
constants_of ty (integer_constant number ∷ rest) = record { ty = ty; value = Int (signed_value number) } ∷ constants_of ty rest

-- a block sets a type before its first constant
abbrev pub SetsTypeFirst : List ConstantRecord → Type 0
SetsTypeFirst [] = Unit {0}
SetsTypeFirst (set_type ty ∷ rest) = Unit {0}
SetsTypeFirst (_ ∷ rest) = ⊥

-- each type that is set is one of so many
abbrev pub NamesType : (types : ℕ) → ConstantRecord → Type 0
NamesType types (set_type ty) = ty < types
NamesType types _ = Unit {0}

-- the blocks hold the constants, one block after the other
pub record ConstantsRecorded (types : ℕ) (blocks : List Contents) (constants : List Const) : Type 0 where
  pub records : List (List ConstantRecord)
  pub spelled : map entries_in blocks ≡ map (map constant_entry) records
  pub no_blocks : flat_map block_ids blocks ≡ []
  pub typed : All SetsTypeFirst records
  pub named : All (NamesType types) (flat_map (λ block. block) records)
  pub values : flat_map (constants_of 0) records ≡ constants

-- The blocks VALUE_SYMTAB of a module, id 14: the names of its functions (LLVM Bitcode File Format,
-- "VALUE_SYMTAB_BLOCK Contents").
use Rattle.std.specs.Prelude.{◌≡◌, ◌≢◌, ◌==◌, ◌<◌, ℕ, suc, if◌then◌else◌, List, [], ◌∷◌, map, All, flat_map}
use Rattle.bc_stream.specs.Blocks.{Contents}
use Rattle.bc_records.specs.Entries.{Entry, entry, entries_in, block_ids}

-- a value number and its name
pub data SymbolRecord : Type 0 where
  symbol : (value : ℕ) (name : List ℕ) → SymbolRecord

-- ENTRY 1
abbrev pub symbol_entry : SymbolRecord → Entry
symbol_entry (symbol value name) = entry 1 (value ∷ name)

-- the name of a value, which is empty where no record names it
abbrev pub name_of : List SymbolRecord → ℕ → List ℕ
name_of [] value = []
name_of (symbol named name ∷ rest) value = if named == value then name else name_of rest value

abbrev pub IsOf : (values : ℕ) → SymbolRecord → Type 0
IsOf values (symbol value name) = value < values

abbrev pub IsOther : ℕ → SymbolRecord → Type 0
IsOther value (symbol named name) = named ≢ value

-- no value is named twice
abbrev pub NamesOnce : List SymbolRecord → Type 0
NamesOnce [] = Unit {0}
NamesOnce (symbol value name ∷ rest) = All (IsOther value) rest × NamesOnce rest

-- the names of values from one on, as the records give them
abbrev pub NamedFrom : ℕ → List SymbolRecord → List (List ℕ) → Type 0
NamedFrom value records [] = Unit {0}
NamedFrom value records (name ∷ names) = (name_of records value ≡ name) × NamedFrom (suc value) records names

-- the blocks name so many values, each at most once
pub record SymbolsRecorded (values : ℕ) (blocks : List Contents) (names : List (List ℕ)) : Type 0 where
  pub records : List (List SymbolRecord)
  pub spelled : map entries_in blocks ≡ map (map symbol_entry) records
  pub no_blocks : flat_map block_ids blocks ≡ []
  pub of_values : All (IsOf values) (flat_map (λ block. block) records)
  pub once : NamesOnce (flat_map (λ block. block) records)
  pub names_are : NamedFrom 0 (flat_map (λ block. block) records) names

-- The blocks METADATA of a module, id 15 (LLVM Bitcode File Format, "METADATA_BLOCK Contents").
use Rattle.std.specs.Prelude.{◌≡◌, ℕ, suc, zero, Option, None, Some, List, [], ◌∷◌, map, flat_map}
use Rattle.ir_core.specs.declared.module.Meta.{Meta}
use Rattle.ir_core.specs.declared.module.Meta.TheVariants.{Chars, Value, Node}
use Rattle.ir_core.specs.declared.module.Named.{Named}
use Rattle.bc_stream.specs.Blocks.{Contents}
use Rattle.bc_records.specs.Entries.{Entry, entry, entries_in, block_ids}

-- a record of metadata, or two: a name stands directly before the nodes that it names
pub data MetadataRecord : Type 0 where
  string_metadata : (text : List ℕ) → MetadataRecord
  value_metadata : (ty value : ℕ) → MetadataRecord
  node_metadata : (parts : List ℕ) → MetadataRecord
  named_metadata : (name ids : List ℕ) → MetadataRecord

-- STRING 1, VALUE 2, NODE 3, NAME 4 and NAMED_NODE 10
abbrev pub metadata_entries : MetadataRecord → List Entry
metadata_entries (string_metadata text) = entry 1 text ∷ []
metadata_entries (value_metadata ty value) = entry 2 (ty ∷ value ∷ []) ∷ []
metadata_entries (node_metadata parts) = entry 3 parts ∷ []
metadata_entries (named_metadata name ids) = entry 4 name ∷ entry 10 ids ∷ []

-- a part of a node: the number of metadata and 1, or 0 for null
abbrev pub node_part : ℕ → Option ℕ
node_part zero = None
node_part (suc id) = Some id

-- the metadata in order of their numbers
abbrev pub metas_of : List MetadataRecord → List Meta
metas_of [] = []
metas_of (string_metadata text ∷ rest) = Chars text ∷ metas_of rest
metas_of (value_metadata ty value ∷ rest) = Value ty value ∷ metas_of rest
metas_of (node_metadata parts ∷ rest) = Node (map node_part parts) ∷ metas_of rest
metas_of (named_metadata name ids ∷ rest) = metas_of rest

-- the named metadata in order
abbrev pub named_of : List MetadataRecord → List Named
named_of [] = []
named_of (named_metadata name ids ∷ rest) = record { name = name; ids = ids } ∷ named_of rest
named_of (_ ∷ rest) = named_of rest

-- the blocks hold the metadata, numbered through all of them
pub record MetadataRecorded (blocks : List Contents) (metas : List Meta) (named : List Named) : Type 0 where
  pub records : List (List MetadataRecord)
  pub spelled : map entries_in blocks ≡ map (flat_map metadata_entries) records
  pub no_blocks : flat_map block_ids blocks ≡ []
  pub numbered : flat_map metas_of records ≡ metas
  pub names : flat_map named_of records ≡ named

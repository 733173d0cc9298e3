-- The written type table records the types.
use Rattle.std.proofs.Common.{◌≡◌, List, [], ◌∷◌, Some, None, map, length, refl, ap}
use Rattle.std.specs.Prelude.{All, flat_map}
use Rattle.std.proofs.lemmas.Bool.{false≢true}
use Rattle.std.proofs.lemmas.List.Elements.{All-nil, All-cons, All-head, All-tail}
use Rattle.ir_core.specs.declared.module.Ty.{Ty}
use Rattle.ir_core.specs.declared.module.Ty.TheVariants.{Void, Label, Metadata, Int, Pointer, Array, Vector, Struct, Function}
use Rattle.bc_stream.specs.Blocks.{no_more}
use Rattle.bc_records.specs.TypeRecords.{number_of_entries, void_type, integer_type, pointer_type, metadata_type, struct_name, struct_type, function_type, type_entry, table_of, stated_numbers, IsTypeText, TypesRecorded}
use Rattle.bc_records.specs.FirstList.{IsListedType}
use Rattle.bc_records.specs.Ranges.{TypeInRange}
use Rattle.bc_records.specs.Written.{type_records, written_types, types_contents}
use Rattle.bc_records.proofs.ListedLemmas.{entries_in-alone, block_ids-listed}

entries-types : (types : List Ty) → All IsListedType types → table_of [] (flat_map type_records types) ≡ types
entries-types [] all = refl
entries-types (Void ∷ types) all = ap (λ ts. Void ∷ ts) (entries-types types (All-tail IsListedType _ _ all))
entries-types (Label ∷ types) all = absurd (All-head IsListedType _ _ all)
entries-types (Metadata ∷ types) all = ap (λ ts. Metadata ∷ ts) (entries-types types (All-tail IsListedType _ _ all))
entries-types (Int width ∷ types) all = ap (λ ts. Int width ∷ ts) (entries-types types (All-tail IsListedType _ _ all))
entries-types (Pointer to space ∷ types) all = ap (λ ts. Pointer to space ∷ ts) (entries-types types (All-tail IsListedType _ _ all))
entries-types (Array len of ∷ types) all = absurd (All-head IsListedType _ _ all)
entries-types (Vector len of ∷ types) all = absurd (All-head IsListedType _ _ all)
entries-types (Struct None parts ∷ types) all = let bad : IsListedType (Struct None parts) = All-head IsListedType (Struct None parts) types all in absurd (false≢true bad)
entries-types (Struct (Some name) parts ∷ types) all = ap (λ ts. Struct (Some name) parts ∷ ts) (entries-types types (All-tail IsListedType _ _ all))
entries-types (Function result params ∷ types) all = ap (λ ts. Function result params ∷ ts) (entries-types types (All-tail IsListedType _ _ all))

no_numbers : (types : List Ty) → stated_numbers (flat_map type_records types) ≡ []
no_numbers [] = refl
no_numbers (Void ∷ types) = no_numbers types
no_numbers (Label ∷ types) = no_numbers types
no_numbers (Metadata ∷ types) = no_numbers types
no_numbers (Int width ∷ types) = no_numbers types
no_numbers (Pointer to space ∷ types) = no_numbers types
no_numbers (Array len of ∷ types) = no_numbers types
no_numbers (Vector len of ∷ types) = no_numbers types
no_numbers (Struct None parts ∷ types) = no_numbers types
no_numbers (Struct (Some name) parts ∷ types) = no_numbers types
no_numbers (Function result params ∷ types) = no_numbers types

texts : (types : List Ty) → All TypeInRange types → All IsTypeText (flat_map type_records types)
texts [] all = All-nil IsTypeText
texts (Void ∷ types) all = All-cons IsTypeText void_type (flat_map type_records types) tt (texts types (All-tail TypeInRange _ _ all))
texts (Label ∷ types) all = texts types (All-tail TypeInRange _ _ all)
texts (Metadata ∷ types) all = All-cons IsTypeText metadata_type (flat_map type_records types) tt (texts types (All-tail TypeInRange _ _ all))
texts (Int width ∷ types) all = All-cons IsTypeText (integer_type width) (flat_map type_records types) tt (texts types (All-tail TypeInRange _ _ all))
texts (Pointer to space ∷ types) all = All-cons IsTypeText (pointer_type to space) (flat_map type_records types) tt (texts types (All-tail TypeInRange _ _ all))
texts (Array len of ∷ types) all = texts types (All-tail TypeInRange _ _ all)
texts (Vector len of ∷ types) all = texts types (All-tail TypeInRange _ _ all)
texts (Struct None parts ∷ types) all = texts types (All-tail TypeInRange _ _ all)
texts (Struct (Some name) parts ∷ types) all =
    let own : TypeInRange (Struct (Some name) parts) = All-head TypeInRange (Struct (Some name) parts) types all in
    All-cons IsTypeText (struct_name name) (struct_type parts ∷ flat_map type_records types) own.0
    (All-cons IsTypeText (struct_type parts) (flat_map type_records types) tt (texts types (All-tail TypeInRange _ _ all)))
texts (Function result params ∷ types) all = All-cons IsTypeText (function_type result params) (flat_map type_records types) tt (texts types (All-tail TypeInRange _ _ all))

pub types_written : (types : List Ty) → All IsListedType types → All TypeInRange types → TypesRecorded (types_contents types) types
types_written types listed_types in_range = record {
  records = written_types types;
  spelled = entries_in-alone (map type_entry (written_types types));
  no_blocks = block_ids-listed (map type_entry (written_types types)) no_more;
  entries = entries-types types listed_types;
  number = ap (λ ns. length types ∷ ns) (no_numbers types);
  texts = All-cons IsTypeText (number_of_entries (length types)) (flat_map type_records types) tt (texts types in_range);
}

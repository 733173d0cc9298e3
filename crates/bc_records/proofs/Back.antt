-- Records from their codes and operands: each table of records is read back.
use Rattle.std.proofs.Common.{◌≡◌, ℕ, List, [], ◌∷◌, map, refl, ap, sym, ◌∙◌}
use Rattle.std.specs.Prelude.{◌==◌, if◌then◌else◌, flat_map}
use Rattle.bc_records.specs.Entries.{Entry, entry}
use Rattle.bc_records.specs.TypeRecords.{TypeRecord, number_of_entries, void_type, integer_type, pointer_type, metadata_type, struct_name, struct_type, function_type, type_entry}
use Rattle.bc_records.specs.ConstantRecords.{ConstantRecord, set_type, null_constant, undef_constant, integer_constant, constant_entry}
use Rattle.bc_records.specs.MetadataRecords.{MetadataRecord, string_metadata, value_metadata, node_metadata, named_metadata, metadata_entries}
use Rattle.bc_records.specs.SymbolRecords.{SymbolRecord, symbol, symbol_entry}
use Rattle.bc_records.specs.BodyRecords.{BodyRecord, declare_blocks, return_record, call_record, body_entry}
use Rattle.bc_records.specs.ModuleRecords.{ModuleRecord, version_record, triple_record, layout_record, function_record, module_entry}

-- a list of what can be read back is read back
module _ {X Y : Type 0} (spell : X → Y) (back : Y → X) (is_back : (x : X) → back (spell x) ≡ x) where
  pub map_back : (xs : List X) → map back (map spell xs) ≡ xs
  map_back [] = refl
  map_back (x ∷ xs) = ap (λ y. y ∷ map back (map spell xs)) (is_back x) ∙ ap (λ ys. x ∷ ys) (map_back xs)

  pub map_once : (xs ys : List X) → map spell xs ≡ map spell ys → xs ≡ ys
  map_once xs ys same = sym (map_back xs) ∙ (ap (map back) same ∙ map_back ys)

-- the operands of a record

abbrev first : List ℕ → ℕ
first [] = 0
first (x ∷ xs) = x

abbrev after_first : List ℕ → List ℕ
after_first [] = []
after_first (x ∷ xs) = xs

abbrev second : List ℕ → ℕ
second xs = first (after_first xs)

-- types

abbrev pub type_back : Entry → TypeRecord
type_back (entry code xs) =
    if code == 1 then number_of_entries (first xs)
    else if code == 7 then integer_type (first xs)
    else if code == 8 then pointer_type (first xs) (second xs)
    else if code == 16 then metadata_type
    else if code == 19 then struct_name xs
    else if code == 20 then struct_type (after_first xs)
    else if code == 21 then function_type (second xs) (after_first (after_first xs))
    else void_type

pub type_is_back : (r : TypeRecord) → type_back (type_entry r) ≡ r
type_is_back (number_of_entries n) = refl
type_is_back void_type = refl
type_is_back (integer_type width) = refl
type_is_back (pointer_type to space) = refl
type_is_back metadata_type = refl
type_is_back (struct_name name) = refl
type_is_back (struct_type parts) = refl
type_is_back (function_type result params) = refl

-- constants

abbrev pub constant_back : Entry → ConstantRecord
constant_back (entry code xs) =
    if code == 1 then set_type (first xs)
    else if code == 2 then null_constant
    else if code == 3 then undef_constant
    else integer_constant (first xs)

pub constant_is_back : (r : ConstantRecord) → constant_back (constant_entry r) ≡ r
constant_is_back (set_type ty) = refl
constant_is_back null_constant = refl
constant_is_back undef_constant = refl
constant_is_back (integer_constant number) = refl

-- metadata: the name that stands last before a record

abbrev pub metadata_back : List ℕ → List Entry → List MetadataRecord
metadata_back name [] = []
metadata_back name (entry code xs ∷ rest) =
    if code == 1 then string_metadata xs ∷ metadata_back name rest
    else if code == 2 then value_metadata (first xs) (second xs) ∷ metadata_back name rest
    else if code == 3 then node_metadata xs ∷ metadata_back name rest
    else if code == 4 then metadata_back xs rest
    else named_metadata name xs ∷ metadata_back name rest

pub metadata_is_back : (name : List ℕ) (rs : List MetadataRecord) → metadata_back name (flat_map metadata_entries rs) ≡ rs
metadata_is_back name [] = refl
metadata_is_back name (string_metadata text ∷ rs) = ap (λ ys. string_metadata text ∷ ys) (metadata_is_back name rs)
metadata_is_back name (value_metadata ty value ∷ rs) = ap (λ ys. value_metadata ty value ∷ ys) (metadata_is_back name rs)
metadata_is_back name (node_metadata parts ∷ rs) = ap (λ ys. node_metadata parts ∷ ys) (metadata_is_back name rs)
metadata_is_back name (named_metadata own ids ∷ rs) = ap (λ ys. named_metadata own ids ∷ ys) (metadata_is_back own rs)

-- names

abbrev pub symbol_back : Entry → SymbolRecord
symbol_back (entry code xs) = symbol (first xs) (after_first xs)

pub symbol_is_back : (r : SymbolRecord) → symbol_back (symbol_entry r) ≡ r
symbol_is_back (symbol value name) = refl

-- bodies

abbrev pub body_back : Entry → BodyRecord
body_back (entry code xs) =
    if code == 1 then declare_blocks (first xs)
    else if code == 10 then return_record
    else call_record (first xs) (second xs) (second (after_first xs)) (second (after_first (after_first xs))) (after_first (after_first (after_first (after_first xs))))

pub body_is_back : (r : BodyRecord) → body_back (body_entry r) ≡ r
body_is_back (declare_blocks n) = refl
body_is_back return_record = refl
body_is_back (call_record attributes convention ty function args) = refl

-- the module

abbrev pub module_back : Entry → ModuleRecord
module_back (entry code xs) =
    if code == 1 then version_record
    else if code == 2 then triple_record xs
    else if code == 3 then layout_record xs
    else function_record (first xs) (second xs) (second (after_first xs)) (second (after_first (after_first xs))) (after_first (after_first (after_first (after_first xs))))

pub module_is_back : (r : ModuleRecord) → module_back (module_entry r) ≡ r
module_is_back version_record = refl
module_is_back (triple_record text) = refl
module_is_back (layout_record text) = refl
module_is_back (function_record ty convention prototype linkage others) = refl

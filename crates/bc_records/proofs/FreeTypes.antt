-- A block that holds a type table has no fault, where the table is sound.
use Rattle.std.proofs.Common.{◌≡◌, ℕ, suc, ◌<◌, List, [], ◌∷◌, ◌++◌, map, length, refl, ap, sym, ◌∙◌, subst, arith}
use Rattle.std.specs.Prelude.{true, false, Some, ◌==◌, ◌&&◌, nat_le, All}
use Rattle.std.specs.List.{list_all}
use Rattle.std.proofs.lemmas.List.Elements.{All-head, All-tail}
use Rattle.ir_core.specs.declared.module.Ty.{Ty}
use Rattle.ir_core.specs.declared.module.Ty.TheVariants.{Void, Metadata, Int, Pointer, Struct, Function}
use Rattle.ir_core.specs.Soundness.{IsSoundType}
use Rattle.bc_stream.specs.Blocks.{Contents}
use Rattle.bc_records.specs.Entries.{Entry, IsWord, IsText}
use Rattle.bc_records.specs.TypeRecords.{TypeRecord, number_of_entries, void_type, integer_type, pointer_type, metadata_type, struct_name, struct_type, function_type, type_entry, table_of, stated_numbers, IsTypeText, TypesRecorded}
use Rattle.bc_records.specs.Ranges.{TypeInRange}
use Rattle.bc_records.specs.FaultSites.{IsFree, sites}
use Rattle.bc_records.specs.RecordKinds.{Known, has_code, kind_if, kind_unless, type_kinds, names, is_word, type_entries}
use Rattle.bc_records.specs.RecordFaults.{types_table}
use Rattle.bc_records.proofs.BodiesOnce.{parts_same}
use Rattle.bc_records.proofs.FreeSites.{FreeRecords, free_flat}
use Rattle.bc_records.proofs.Tests.{at_most, equal, both, unless, no_kinds, text_passes, word_passes, name_passes, names_pass, code_before}

-- the numbers and characters in a record
abbrev pub SoundRecord : ℕ → TypeRecord → Type 0
SoundRecord n (integer_type width) = IsWord width
SoundRecord n (pointer_type to space) = (to < n) × IsWord to × IsWord space
SoundRecord n (struct_name name) = IsText name
SoundRecord n (struct_type parts) = All (λ x. x < n) parts × All IsWord parts
SoundRecord n (function_type result params) = (result < n) × IsWord result × All (λ x. x < n) params × All IsWord params
SoundRecord n _ = Unit {0}

abbrev pub SoundRecords : ℕ → List TypeRecord → Type 0
SoundRecords n [] = Unit {0}
SoundRecords n (r ∷ rs) = SoundRecord n r × SoundRecords n rs

sound_records : (n : ℕ) (name : List ℕ) (rs : List TypeRecord) → All (IsSoundType n) (table_of name rs) → All TypeInRange (table_of name rs) → All IsTypeText rs → SoundRecords n rs
sound_records n name [] sound range texts = tt
sound_records n name (number_of_entries k ∷ rs) sound range texts = (tt, sound_records n name rs sound range (All-tail IsTypeText (number_of_entries k) rs texts))
sound_records n name (void_type ∷ rs) sound range texts =
    (tt, sound_records n name rs (All-tail (IsSoundType n) Void (table_of name rs) sound) (All-tail TypeInRange Void (table_of name rs) range) (All-tail IsTypeText void_type rs texts))
sound_records n name (metadata_type ∷ rs) sound range texts =
    (tt, sound_records n name rs (All-tail (IsSoundType n) Metadata (table_of name rs) sound) (All-tail TypeInRange Metadata (table_of name rs) range) (All-tail IsTypeText metadata_type rs texts))
sound_records n name (integer_type w ∷ rs) sound range texts = (
  All-head TypeInRange (Int w) (table_of name rs) range,
  sound_records n name rs (All-tail (IsSoundType n) (Int w) (table_of name rs) sound) (All-tail TypeInRange (Int w) (table_of name rs) range) (All-tail IsTypeText (integer_type w) rs texts),
)
sound_records n name (pointer_type to space ∷ rs) sound range texts =
    let own : Ty = Pointer to space in
    let fits = All-head TypeInRange own (table_of name rs) range in (
      (All-head (IsSoundType n) own (table_of name rs) sound, fits.0, fits.1),
      sound_records n name rs (All-tail (IsSoundType n) own (table_of name rs) sound) (All-tail TypeInRange own (table_of name rs) range) (All-tail IsTypeText (pointer_type to space) rs texts),
    )
sound_records n name (struct_name next ∷ rs) sound range texts =
    (All-head IsTypeText (struct_name next) rs texts, sound_records n next rs sound range (All-tail IsTypeText (struct_name next) rs texts))
sound_records n name (struct_type parts ∷ rs) sound range texts =
    let own : Ty = Struct (Some name) parts in
    let fits = All-head TypeInRange own (table_of [] rs) range in (
      (All-head (IsSoundType n) own (table_of [] rs) sound, fits.1),
      sound_records n [] rs (All-tail (IsSoundType n) own (table_of [] rs) sound) (All-tail TypeInRange own (table_of [] rs) range) (All-tail IsTypeText (struct_type parts) rs texts),
    )
sound_records n name (function_type result params ∷ rs) sound range texts =
    let own : Ty = Function result params in
    let fits = All-head TypeInRange own (table_of name rs) range in
    let named = All-head (IsSoundType n) own (table_of name rs) sound in (
      (named.0, fits.0, named.1, fits.1),
      sound_records n name rs (All-tail (IsSoundType n) own (table_of name rs) sound) (All-tail TypeInRange own (table_of name rs) range) (All-tail IsTypeText (function_type result params) rs texts),
    )

-- a record other than the number of entries
record_free : (n : ℕ) (before : List Entry) (r : TypeRecord) → stated_numbers (r ∷ []) ≡ [] → SoundRecord n r → type_kinds n before (type_entry r) ≡ []
record_free n before (number_of_entries k) stated sound = absurd (omega (arith, ap length stated))
record_free n before void_type stated sound = refl
record_free n before metadata_type stated sound = refl
record_free n before (integer_type w) stated sound = unless (is_word w) 3 (word_passes w sound)
record_free n before (pointer_type to space) stated sound =
    unless (names n to && is_word space) 3 (both (names n to) (is_word space) (name_passes n to sound.0 sound.1) (word_passes space sound.2))
record_free n before (struct_name name) stated sound = unless _ 7 (text_passes name sound)
record_free n before (struct_type parts) stated sound =
    no_kinds (kind_unless (nat_le 1 (length (0 ∷ parts))) 2) (kind_unless (list_all (names n) parts) 3)
    (unless (nat_le 1 (length (0 ∷ parts))) 2 (at_most 1 (length (0 ∷ parts)) (omega arith)))
    (unless (list_all (names n) parts) 3 (names_pass n parts sound.0 sound.1))
record_free n before (function_type result params) stated sound =
    no_kinds (kind_unless (nat_le 2 (length (0 ∷ result ∷ params))) 2) (kind_unless (names n result && list_all (names n) params) 3)
    (unless (nat_le 2 (length (0 ∷ result ∷ params))) 2 (at_most 2 (length (0 ∷ result ∷ params)) (omega arith)))
    (unless (names n result && list_all (names n) params) 3
    (both (names n result) (list_all (names n) params) (name_passes n result sound.0 sound.1) (names_pass n params sound.2 sound.3)))

abbrev pub kinds : ℕ → List Entry → Entry → List Entry → List ℕ
kinds n = λ before e after. type_kinds n before e

-- records after the number of entries
later_free : (n : ℕ) (before : List Entry) (rs : List TypeRecord) → stated_numbers rs ≡ [] → SoundRecords n rs → FreeRecords (kinds n) before (map type_entry rs)
later_free n before [] stated sound = tt
later_free n before (number_of_entries k ∷ rs) stated sound = absurd (omega (arith, ap length stated))
later_free n before (void_type ∷ rs) stated sound = (record_free n before void_type refl sound.0, later_free n (before ++ type_entry void_type ∷ []) rs stated sound.1)
later_free n before (integer_type w ∷ rs) stated sound = (record_free n before (integer_type w) refl sound.0, later_free n (before ++ type_entry (integer_type w) ∷ []) rs stated sound.1)
later_free n before (pointer_type a b ∷ rs) stated sound = (record_free n before (pointer_type a b) refl sound.0, later_free n (before ++ type_entry (pointer_type a b) ∷ []) rs stated sound.1)
later_free n before (metadata_type ∷ rs) stated sound = (record_free n before metadata_type refl sound.0, later_free n (before ++ type_entry metadata_type ∷ []) rs stated sound.1)
later_free n before (struct_name a ∷ rs) stated sound = (record_free n before (struct_name a) refl sound.0, later_free n (before ++ type_entry (struct_name a) ∷ []) rs stated sound.1)
later_free n before (struct_type a ∷ rs) stated sound = (record_free n before (struct_type a) refl sound.0, later_free n (before ++ type_entry (struct_type a) ∷ []) rs stated sound.1)
later_free n before (function_type a b ∷ rs) stated sound = (record_free n before (function_type a b) refl sound.0, later_free n (before ++ type_entry (function_type a b) ∷ []) rs stated sound.1)

number_free : (k n : ℕ) (before : List Entry) → has_code 1 before ≡ false → k ≡ n → type_kinds n before (type_entry (number_of_entries k)) ≡ []
number_free k n before none same =
    no_kinds (kind_unless (k == n) 3) (kind_if (has_code 1 before) 6) (unless (k == n) 3 (equal k n same)) (ap (λ b. kind_if b 6) none)

all_free : (n : ℕ) (before : List Entry) (rs : List TypeRecord) → has_code 1 before ≡ false → stated_numbers rs ≡ n ∷ [] → SoundRecords n rs → FreeRecords (kinds n) before (map type_entry rs)
all_free n before [] none stated sound = tt
all_free n before (number_of_entries k ∷ rs) none stated sound =
    let same = parts_same k n (stated_numbers rs) [] stated in
    (number_free k n before none same.0, later_free n (before ++ type_entry (number_of_entries k) ∷ []) rs same.1 sound.1)
all_free n before (void_type ∷ rs) none stated sound = (record_free n before void_type refl sound.0, all_free n (before ++ type_entry void_type ∷ []) rs (code_before 1 before (type_entry void_type) none refl) stated sound.1)
all_free n before (integer_type w ∷ rs) none stated sound = (record_free n before (integer_type w) refl sound.0, all_free n (before ++ type_entry (integer_type w) ∷ []) rs (code_before 1 before (type_entry (integer_type w)) none refl) stated sound.1)
all_free n before (pointer_type a b ∷ rs) none stated sound = (record_free n before (pointer_type a b) refl sound.0, all_free n (before ++ type_entry (pointer_type a b) ∷ []) rs (code_before 1 before (type_entry (pointer_type a b)) none refl) stated sound.1)
all_free n before (metadata_type ∷ rs) none stated sound = (record_free n before metadata_type refl sound.0, all_free n (before ++ type_entry metadata_type ∷ []) rs (code_before 1 before (type_entry metadata_type) none refl) stated sound.1)
all_free n before (struct_name a ∷ rs) none stated sound = (record_free n before (struct_name a) refl sound.0, all_free n (before ++ type_entry (struct_name a) ∷ []) rs (code_before 1 before (type_entry (struct_name a)) none refl) stated sound.1)
all_free n before (struct_type a ∷ rs) none stated sound = (record_free n before (struct_type a) refl sound.0, all_free n (before ++ type_entry (struct_type a) ∷ []) rs (code_before 1 before (type_entry (struct_type a)) none refl) stated sound.1)
all_free n before (function_type a b ∷ rs) none stated sound = (record_free n before (function_type a b) refl sound.0, all_free n (before ++ type_entry (function_type a b) ∷ []) rs (code_before 1 before (type_entry (function_type a b)) none refl) stated sound.1)

-- the number of entries stands somewhere
stated_has : (rs : List TypeRecord) (n : ℕ) → stated_numbers rs ≡ n ∷ [] → has_code 1 (map type_entry rs) ≡ true
stated_has [] n stated = absurd (omega (arith, ap length stated))
stated_has (number_of_entries k ∷ rs) n stated = refl
stated_has (void_type ∷ rs) n stated = stated_has rs n stated
stated_has (integer_type w ∷ rs) n stated = stated_has rs n stated
stated_has (pointer_type a b ∷ rs) n stated = stated_has rs n stated
stated_has (metadata_type ∷ rs) n stated = stated_has rs n stated
stated_has (struct_name a ∷ rs) n stated = stated_has rs n stated
stated_has (struct_type a ∷ rs) n stated = stated_has rs n stated
stated_has (function_type a b ∷ rs) n stated = stated_has rs n stated

pub entries_long : (name : List ℕ) (rs : List TypeRecord) → length (type_entries (map type_entry rs)) ≡ length (table_of name rs)
entries_long name [] = refl
entries_long name (number_of_entries k ∷ rs) = entries_long name rs
entries_long name (void_type ∷ rs) = ap suc (entries_long name rs)
entries_long name (integer_type w ∷ rs) = ap suc (entries_long name rs)
entries_long name (pointer_type a b ∷ rs) = ap suc (entries_long name rs)
entries_long name (metadata_type ∷ rs) = ap suc (entries_long name rs)
entries_long name (struct_name a ∷ rs) = entries_long a rs
entries_long name (struct_type a ∷ rs) = ap suc (entries_long [] rs)
entries_long name (function_type a b ∷ rs) = ap suc (entries_long name rs)

pub types_free : (known : Known) (number : ℕ) (block : Contents) (types : List Ty) → TypesRecorded block types → length known.types ≡ length types →
    All (IsSoundType (length types)) types → All TypeInRange types → All IsFree (sites (types_table known) number block)
types_free known number block types r long sound range =
    let n : ℕ = length known.types in
    let records : SoundRecords n r.records
    = sound_records n [] r.records (subst (λ ts. All (IsSoundType n) ts) (sym r.entries) (subst (λ k. All (IsSoundType k) types) (sym long) sound)) (subst (All TypeInRange) (sym r.entries) range) r.texts in
    let all : FreeRecords (kinds n) [] (map type_entry r.records)
    = all_free n [] r.records refl (r.number ∙ ap (λ k. k ∷ []) (sym long)) records in
    free_flat (types_table known) number block r.no_blocks (subst (FreeRecords (kinds n) []) (sym r.spelled) all)
    (ap (λ es. kind_unless (has_code 1 es) 1) r.spelled ∙ ap (λ b. kind_unless b 1) (stated_has r.records (length types) r.number))

-- A type table without a fault is recorded, and is sound and in range.
use mathlib.Core.Logic.{◌⊎◌, inl, inr}
use Rattle.std.proofs.Common.{◌≡◌, ℕ, ◌+◌, ◌<◌, List, [], ◌∷◌, ◌++◌, map, length, refl, ap, sym, ◌∙◌, subst}
use Rattle.std.specs.Prelude.{Bool, true, false, not, cond, ◌==◌, ◌&&◌, nat_eq, nat_le, drop, Option, Some, IsSome, is_some, option_and_then, slice_get, All}
use Rattle.std.specs.List.{list_all, position_from}
use Rattle.std.specs.Option.{option_map_or}
use Rattle.std.proofs.lemmas.Bool.{and_parts, or_cases, both_ways, eqb-true}
use Rattle.std.proofs.lemmas.List.Elements.{All-nil, All-cons}
use Rattle.ir_core.specs.declared.module.Ty.{Ty}
use Rattle.ir_core.specs.declared.module.Ty.TheVariants.{Void, Metadata, Int, Pointer, Struct, Function}
use Rattle.ir_core.specs.Values.{ty_eq, signature, number_of}
use Rattle.ir_core.specs.Soundness.{IsSoundType}
use Rattle.bc_stream.specs.Blocks.{Contents}
use Rattle.bc_records.specs.Entries.{Entry, entry, entries_in, IsText}
use Rattle.bc_records.specs.TypeRecords.{TypeRecord, number_of_entries, void_type, integer_type, pointer_type, metadata_type, struct_name, struct_type, function_type, type_entry, table_of, stated_numbers, IsTypeText, TypesRecorded}
use Rattle.bc_records.specs.Ranges.{TypeInRange}
use Rattle.bc_records.specs.Read.{word, read_type}
use Rattle.bc_records.specs.RecordKinds.{Known, code_of, operand, counts, names, is_word, is_text, kind_if, kind_unless, has_code, has_entry, type_kinds, type_entries, signature_of_entry, signature_at, is_value_type_at, has_pointer_to}
use Rattle.bc_records.proofs.Agreement.{is_value}
use Rattle.bc_records.proofs.AgreeModule.{signature_same, value_type_same, pointer_found}
use Rattle.bc_records.proofs.FreeSites.{FreeRecords}
use Rattle.bc_records.proofs.FreeTypes.{SoundRecord, SoundRecords, kinds, entries_long}
use Rattle.bc_records.proofs.Tests.{both, equal, both_none, code_stays}
use Rattle.bc_records.proofs.Told.{Plain, choose, some_kind, told_unless, told_if, told_two, told_text, told_word, told_name, told_names, word_same, words_same, text_same, no_operands, one_operand, two_operands, first_operands, code_here}

-- each record is spelled as it is read

abbrev IsSpelled : ℕ → List Entry → List ℕ → ℕ → Type 0
IsSpelled n before ops code = type_kinds n before (entry code ops) ≡ [] → entry code ops ≡ type_entry (read_type (entry code ops))

number_spelled : (n : ℕ) (before : List Entry) (ops : List ℕ) → IsSpelled n before ops 1
number_spelled n before ops free =
    ap (entry 1) (one_operand ops (told_unless (counts ops 1) 2 (both_none (kind_unless (counts ops 1) 2) (kind_unless (operand ops 0 == n) 3 ++ kind_if (has_code 1 before) 6) free).0))

integer_spelled : (n : ℕ) (before : List Entry) (ops : List ℕ) → IsSpelled n before ops 7
integer_spelled n before ops free =
    let told = told_two (counts ops 1) (is_word (operand ops 0)) 2 3 free in
    ap (entry 7) (one_operand ops told.0 ∙ ap (λ x. x ∷ []) (sym (word_same (operand ops 0) (told_word (operand ops 0) told.1))))

pointer_spelled : (n : ℕ) (before : List Entry) (ops : List ℕ) → IsSpelled n before ops 8
pointer_spelled n before ops free =
    let to : ℕ = operand ops 0 in
    let space : ℕ = operand ops 1 in
    let told = told_two (counts ops 2) (names n to && is_word space) 2 3 free in
    let parts = and_parts (names n to) (is_word space) told.1 in
    ap (entry 8) (
    two_operands ops told.0
    ∙ (ap (λ x. x ∷ space ∷ []) (sym (word_same to (told_name n to parts.0).1)) ∙ ap (λ x. word to ∷ x ∷ []) (sym (word_same space (told_word space parts.1))))
    )

struct_spelled : (n : ℕ) (before : List Entry) (ops : List ℕ) → IsSpelled n before ops 20
struct_spelled n before ops free =
    let told = told_two (nat_le 1 (length ops)) ((operand ops 0 == 0) && list_all (names n) (drop 1 ops)) 2 3 free in
    let parts = and_parts (operand ops 0 == 0) (list_all (names n) (drop 1 ops)) told.1 in
    ap (entry 20) (
    first_operands ops told.0
    ∙ (ap (λ x. x ∷ drop 1 ops) (eqb-true (operand ops 0) 0 parts.0) ∙ ap (λ xs. 0 ∷ xs) (sym (words_same (drop 1 ops) (told_names n (drop 1 ops) parts.1).1)))
    )

function_spelled : (n : ℕ) (before : List Entry) (ops : List ℕ) → IsSpelled n before ops 21
function_spelled n before [] free = some_kind 2 _ free
function_spelled n before (a ∷ []) free = some_kind 2 _ free
function_spelled n before (a ∷ result ∷ params) free =
    let told = told_two (nat_le 2 (length (a ∷ result ∷ params))) ((a == 0) && list_all (names n) (result ∷ params)) 2 3 free in
    let parts = and_parts (a == 0) (list_all (names n) (result ∷ params)) told.1 in
    ap (entry 21) (ap (λ x. x ∷ result ∷ params) (eqb-true a 0 parts.0) ∙ ap (λ xs. 0 ∷ xs) (sym (words_same (result ∷ params) (told_names n (result ∷ params) parts.1).1)))

other_code : (n : ℕ) (before : List Entry) (ops : List ℕ) (code : ℕ) →
    (code == 1) ≡ false → (code == 2) ≡ false → (code == 16) ≡ false → (code == 7) ≡ false → (code == 8) ≡ false → (code == 19) ≡ false → (code == 20) ≡ false → (code == 21) ≡ false →
    type_kinds n before (entry code ops) ≡ 8 ∷ []
other_code n before ops code a b c d e f g h = rw a (rw b (rw c (rw d (rw e (rw f (rw g (rw h refl)))))))

spelled : (n : ℕ) (before : List Entry) (code : ℕ) (ops : List ℕ) → IsSpelled n before ops code
spelled n before code ops =
    let P : ℕ → Type 0 = IsSpelled n before ops in
    choose P code 1 (number_spelled n before ops) (λ a.
    choose P code 2 (λ free. ap (entry 2) (no_operands ops (told_unless (counts ops 0) 2 free))) (λ b.
    choose P code 16 (λ free. ap (entry 16) (no_operands ops (told_unless (counts ops 0) 2 free))) (λ c.
    choose P code 7 (integer_spelled n before ops) (λ d.
    choose P code 8 (pointer_spelled n before ops) (λ e.
    choose P code 19 (λ free. ap (entry 19) (sym (text_same ops (told_text ops (told_unless (is_text ops) 7 free))))) (λ f.
    choose P code 20 (struct_spelled n before ops) (λ g.
    choose P code 21 (function_spelled n before ops) (λ h free.
    some_kind 8 [] (sym (other_code n before ops code a b c d e f g h) ∙ free)))))))))

all_spelled : (n : ℕ) (before es : List Entry) → FreeRecords (kinds n) before es → es ≡ map type_entry (map read_type es)
all_spelled n before [] free = refl
all_spelled n before (entry code ops ∷ es) free =
    let e : Entry = entry code ops in
    ap (λ x. x ∷ es) (spelled n before code ops free.0) ∙ ap (λ xs. type_entry (read_type e) ∷ xs) (all_spelled n (before ++ e ∷ []) es free.1)

-- the numbers and characters in each record

record_told : (n : ℕ) (before : List Entry) (r : TypeRecord) → type_kinds n before (type_entry r) ≡ [] → SoundRecord n r
record_told n before (number_of_entries k) free = tt
record_told n before void_type free = tt
record_told n before metadata_type free = tt
record_told n before (integer_type w) free = told_word w (told_unless (is_word w) 3 free)
record_told n before (pointer_type to space) free =
    let parts = and_parts (names n to) (is_word space) (told_unless (names n to && is_word space) 3 free) in
    let name = told_name n to parts.0 in
    (name.0, name.1, told_word space parts.1)
record_told n before (struct_name name) free = told_text name (told_unless (is_text name) 7 free)
record_told n before (struct_type parts) free =
    told_names n parts (told_two (nat_le 1 (length (0 ∷ parts))) (list_all (names n) parts) 2 3 free).1
record_told n before (function_type result params) free =
    let parts = and_parts (names n result) (list_all (names n) params) (told_two (nat_le 2 (length (0 ∷ result ∷ params))) (names n result && list_all (names n) params) 2 3 free).1 in
    let first = told_name n result parts.0 in
    let others = told_names n params parts.1 in
    (first.0, first.1, others.0, others.1)

records_told : (n : ℕ) (before : List Entry) (rs : List TypeRecord) → FreeRecords (kinds n) before (map type_entry rs) → SoundRecords n rs
records_told n before [] free = tt
records_told n before (r ∷ rs) free = (record_told n before r free.0, records_told n (before ++ type_entry r ∷ []) rs free.1)

-- the number of entries is stated once

number_told : (k n : ℕ) (before : List Entry) → type_kinds n before (type_entry (number_of_entries k)) ≡ [] → (k ≡ n) × (has_code 1 before ≡ false)
number_told k n before free =
    let apart = both_none (kind_unless (k == n) 3) (kind_if (has_code 1 before) 6) free in
    (eqb-true k n (told_unless (k == n) 3 apart.0), told_if (has_code 1 before) 6 apart.1)

not_again : (n : ℕ) (before : List Entry) (rs : List TypeRecord) → has_code 1 before ≡ true → FreeRecords (kinds n) before (map type_entry rs) → stated_numbers rs ≡ []
not_again n before [] has free = refl
not_again n before (number_of_entries k ∷ rs) has free = absurd (both_ways (has_code 1 before) (number_told k n before free.0).1 has)
not_again n before (void_type ∷ rs) has free = not_again n (before ++ type_entry void_type ∷ []) rs (code_stays 1 before (type_entry void_type) has) free.1
not_again n before (integer_type w ∷ rs) has free = not_again n (before ++ type_entry (integer_type w) ∷ []) rs (code_stays 1 before (type_entry (integer_type w)) has) free.1
not_again n before (pointer_type a b ∷ rs) has free = not_again n (before ++ type_entry (pointer_type a b) ∷ []) rs (code_stays 1 before (type_entry (pointer_type a b)) has) free.1
not_again n before (metadata_type ∷ rs) has free = not_again n (before ++ type_entry metadata_type ∷ []) rs (code_stays 1 before (type_entry metadata_type) has) free.1
not_again n before (struct_name a ∷ rs) has free = not_again n (before ++ type_entry (struct_name a) ∷ []) rs (code_stays 1 before (type_entry (struct_name a)) has) free.1
not_again n before (struct_type a ∷ rs) has free = not_again n (before ++ type_entry (struct_type a) ∷ []) rs (code_stays 1 before (type_entry (struct_type a)) has) free.1
not_again n before (function_type a b ∷ rs) has free = not_again n (before ++ type_entry (function_type a b) ∷ []) rs (code_stays 1 before (type_entry (function_type a b)) has) free.1

stated_once : (n : ℕ) (before : List Entry) (rs : List TypeRecord) → has_code 1 (map type_entry rs) ≡ true → FreeRecords (kinds n) before (map type_entry rs) → stated_numbers rs ≡ n ∷ []
stated_once n before [] has free = absurd (both_ways (has_code 1 []) refl has)
stated_once n before (number_of_entries k ∷ rs) has free =
    let e : Entry = type_entry (number_of_entries k) in
    ap (λ x. x ∷ stated_numbers rs) (number_told k n before free.0).0 ∙ ap (λ xs. n ∷ xs) (not_again n (before ++ e ∷ []) rs (code_here 1 before e refl) free.1)
stated_once n before (void_type ∷ rs) has free = stated_once n (before ++ type_entry void_type ∷ []) rs has free.1
stated_once n before (integer_type w ∷ rs) has free = stated_once n (before ++ type_entry (integer_type w) ∷ []) rs has free.1
stated_once n before (pointer_type a b ∷ rs) has free = stated_once n (before ++ type_entry (pointer_type a b) ∷ []) rs has free.1
stated_once n before (metadata_type ∷ rs) has free = stated_once n (before ++ type_entry metadata_type ∷ []) rs has free.1
stated_once n before (struct_name a ∷ rs) has free = stated_once n (before ++ type_entry (struct_name a) ∷ []) rs has free.1
stated_once n before (struct_type a ∷ rs) has free = stated_once n (before ++ type_entry (struct_type a) ∷ []) rs has free.1
stated_once n before (function_type a b ∷ rs) has free = stated_once n (before ++ type_entry (function_type a b) ∷ []) rs has free.1

-- the types that records say

texts_told : (n : ℕ) (rs : List TypeRecord) → SoundRecords n rs → All IsTypeText rs
texts_told n [] sound = All-nil IsTypeText
texts_told n (number_of_entries k ∷ rs) sound = All-cons IsTypeText (number_of_entries k) rs tt (texts_told n rs sound.1)
texts_told n (void_type ∷ rs) sound = All-cons IsTypeText void_type rs tt (texts_told n rs sound.1)
texts_told n (integer_type w ∷ rs) sound = All-cons IsTypeText (integer_type w) rs tt (texts_told n rs sound.1)
texts_told n (pointer_type a b ∷ rs) sound = All-cons IsTypeText (pointer_type a b) rs tt (texts_told n rs sound.1)
texts_told n (metadata_type ∷ rs) sound = All-cons IsTypeText metadata_type rs tt (texts_told n rs sound.1)
texts_told n (struct_name a ∷ rs) sound = All-cons IsTypeText (struct_name a) rs sound.0 (texts_told n rs sound.1)
texts_told n (struct_type a ∷ rs) sound = All-cons IsTypeText (struct_type a) rs tt (texts_told n rs sound.1)
texts_told n (function_type a b ∷ rs) sound = All-cons IsTypeText (function_type a b) rs tt (texts_told n rs sound.1)

sound_told : (n : ℕ) (name : List ℕ) (rs : List TypeRecord) → SoundRecords n rs → All (IsSoundType n) (table_of name rs)
sound_told n name [] sound = All-nil (IsSoundType n)
sound_told n name (number_of_entries k ∷ rs) sound = sound_told n name rs sound.1
sound_told n name (void_type ∷ rs) sound = All-cons (IsSoundType n) Void (table_of name rs) tt (sound_told n name rs sound.1)
sound_told n name (integer_type w ∷ rs) sound = All-cons (IsSoundType n) (Int w) (table_of name rs) tt (sound_told n name rs sound.1)
sound_told n name (pointer_type a b ∷ rs) sound = All-cons (IsSoundType n) (Pointer a b) (table_of name rs) sound.0.0 (sound_told n name rs sound.1)
sound_told n name (metadata_type ∷ rs) sound = All-cons (IsSoundType n) Metadata (table_of name rs) tt (sound_told n name rs sound.1)
sound_told n name (struct_name a ∷ rs) sound = sound_told n a rs sound.1
sound_told n name (struct_type a ∷ rs) sound = All-cons (IsSoundType n) (Struct (Some name) a) (table_of [] rs) sound.0.0 (sound_told n [] rs sound.1)
sound_told n name (function_type a b ∷ rs) sound = All-cons (IsSoundType n) (Function a b) (table_of name rs) (sound.0.0, sound.0.2) (sound_told n name rs sound.1)

range_told : (n : ℕ) (name : List ℕ) (rs : List TypeRecord) → IsText name → SoundRecords n rs → All TypeInRange (table_of name rs)
range_told n name [] is sound = All-nil TypeInRange
range_told n name (number_of_entries k ∷ rs) is sound = range_told n name rs is sound.1
range_told n name (void_type ∷ rs) is sound = All-cons TypeInRange Void (table_of name rs) tt (range_told n name rs is sound.1)
range_told n name (integer_type w ∷ rs) is sound = All-cons TypeInRange (Int w) (table_of name rs) sound.0 (range_told n name rs is sound.1)
range_told n name (pointer_type a b ∷ rs) is sound = All-cons TypeInRange (Pointer a b) (table_of name rs) (sound.0.1, sound.0.2) (range_told n name rs is sound.1)
range_told n name (metadata_type ∷ rs) is sound = All-cons TypeInRange Metadata (table_of name rs) tt (range_told n name rs is sound.1)
range_told n name (struct_name a ∷ rs) is sound = range_told n a rs sound.0 sound.1
range_told n name (struct_type a ∷ rs) is sound =
    All-cons TypeInRange (Struct (Some name) a) (table_of [] rs) (is, sound.0.1) (range_told n [] rs (All-nil (λ c. c < 256)) sound.1)
range_told n name (function_type a b ∷ rs) is sound = All-cons TypeInRange (Function a b) (table_of name rs) (sound.0.1, sound.0.3) (range_told n name rs is sound.1)

-- a pointer type that stands among the records is in the table

abbrev table_entries : List TypeRecord → List Entry
table_entries rs = type_entries (map type_entry rs)

either_some : (b : Bool) (k : ℕ) (later : Option ℕ) → is_some later ≡ true → is_some (cond b (Some k) later) ≡ true
either_some true k later h = refl
either_some false k later h = h

pointer_here : (v k to space : ℕ) (later : Option ℕ) (rest : Bool) → (rest ≡ true → is_some later ≡ true) →
    (((to == v) && ((space == 0) && true)) ≡ true) ⊎ (rest ≡ true) → is_some (cond (nat_eq v to && nat_eq 0 space) (Some k) later) ≡ true
pointer_here v k to space later rest on (inl h) =
    let first = and_parts (to == v) ((space == 0) && true) h in
    let second = and_parts (space == 0) true first.1 in
    ap (λ b. is_some (cond b (Some k) later)) (both (nat_eq v to) (nat_eq 0 space) (equal v to (sym (eqb-true to v first.0))) (equal 0 space (sym (eqb-true space 0 second.0))))
pointer_here v k to space later rest on (inr h) = either_some (nat_eq v to && nat_eq 0 space) k later (on h)

pointer_told : (v k : ℕ) (name : List ℕ) (rs : List TypeRecord) → has_entry (table_entries rs) (entry 8 (v ∷ 0 ∷ [])) ≡ true →
    is_some (position_from (ty_eq (Pointer v 0)) k (table_of name rs)) ≡ true
pointer_told v k name [] found = absurd (both_ways (has_entry [] (entry 8 (v ∷ 0 ∷ []))) refl found)
pointer_told v k name (number_of_entries n ∷ rs) found = pointer_told v k name rs found
pointer_told v k name (struct_name next ∷ rs) found = pointer_told v k next rs found
pointer_told v k name (void_type ∷ rs) found = pointer_told v (k + 1) name rs found
pointer_told v k name (integer_type w ∷ rs) found = pointer_told v (k + 1) name rs found
pointer_told v k name (metadata_type ∷ rs) found = pointer_told v (k + 1) name rs found
pointer_told v k name (struct_type a ∷ rs) found = pointer_told v (k + 1) [] rs found
pointer_told v k name (function_type a b ∷ rs) found = pointer_told v (k + 1) name rs found
pointer_told v k name (pointer_type to space ∷ rs) found =
    let rest : Bool = has_entry (table_entries rs) (entry 8 (v ∷ 0 ∷ [])) in
    pointer_here v k to space (position_from (ty_eq (Pointer v 0)) (k + 1) (table_of name rs)) rest (pointer_told v (k + 1) name rs)
    (or_cases ((to == v) && ((space == 0) && true)) rest found)

-- what is told of a type table and the types that it says
pub record TypesTold (known : Known) (block : Contents) (types : List Ty) : Type 0 where
  pub recorded : TypesRecorded block types
  pub sound : All (IsSoundType (length types)) types
  pub range : All TypeInRange types
  pub long : length known.types ≡ length types
  pub signatures : (v : ℕ) → signature_at known v ≡ signature types v
  pub value_types : (v : ℕ) → is_value_type_at known v ≡ is_value (slice_get types v)
  pub pointers : (v : ℕ) → IsSome (number_of types (Pointer v 0)) → has_pointer_to known v ≡ true
  pub pointer_types : (v : ℕ) → has_pointer_to known v ≡ true → IsSome (number_of types (Pointer v 0))

pub types_told : (known : Known) (block : Contents) → known.types ≡ type_entries (entries_in block) →
    Plain (λ before e after. type_kinds (length known.types) before e) block → has_code 1 (entries_in block) ≡ true →
    TypesTold known block (table_of [] (map read_type (entries_in block)))
types_told known block table plain stated =
    let n : ℕ = length known.types in
    let rs : List TypeRecord = map read_type (entries_in block) in
    let types : List Ty = table_of [] rs in
    let same : entries_in block ≡ map type_entry rs = all_spelled n [] (entries_in block) plain.1 in
    let free : FreeRecords (kinds n) [] (map type_entry rs) = subst (FreeRecords (kinds n) []) same plain.1 in
    let records : SoundRecords n rs = records_told n [] rs free in
    let entries : known.types ≡ table_entries rs = table ∙ ap type_entries same in
    let long : n ≡ length types = ap length entries ∙ entries_long [] rs in
    let has_pointer : (v : ℕ) → has_pointer_to known v ≡ has_entry (table_entries rs) (entry 8 (v ∷ 0 ∷ [])) = λ v. ap (λ ts. has_entry ts (entry 8 (v ∷ 0 ∷ []))) entries in
    record {
      recorded = record {
        records = rs;
        spelled = same;
        no_blocks = plain.0;
        entries = refl;
        number = stated_once n [] rs (sym (ap (has_code 1) same) ∙ stated) free ∙ ap (λ k. k ∷ []) long;
        texts = texts_told n rs records;
      };
      sound = subst (λ k. All (IsSoundType k) types) long (sound_told n [] rs records);
      range = range_told n [] rs (All-nil (λ c. c < 256)) records;
      long = long;
      signatures = λ v. ap (λ ts. option_and_then signature_of_entry (slice_get ts v)) entries ∙ signature_same [] rs v;
      value_types = λ v. ap (λ ts. option_map_or (λ e. not (code_of e == 2)) (slice_get ts v) false) entries ∙ value_type_same [] rs v;
      pointers = λ v found. has_pointer v ∙ pointer_found v 0 [] rs found;
      pointer_types = λ v found. pointer_told v 0 [] rs (sym (has_pointer v) ∙ found);
    }

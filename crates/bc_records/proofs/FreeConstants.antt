-- Blocks that hold constants have no fault.
use Rattle.std.proofs.Common.{◌≡◌, ℕ, ◌<◌, List, [], ◌∷◌, ◌++◌, map, length, refl, ap, sym, ◌∙◌, subst, arith}
use Rattle.std.specs.Prelude.{true, nat_lt, All, flat_map}
use Rattle.std.proofs.lemmas.List.{length-append}
use Rattle.std.proofs.lemmas.List.Elements.{All-head, All-tail}
use Rattle.bc_stream.specs.Blocks.{Contents}
use Rattle.bc_records.specs.Entries.{Entry, entry, entries_in, block_ids}
use Rattle.bc_records.specs.ConstantRecords.{ConstantRecord, set_type, null_constant, undef_constant, integer_constant, constant_entry, constants_of, SetsTypeFirst, NamesType}
use Rattle.bc_records.specs.FaultSites.{IsFree, sites}
use Rattle.bc_records.specs.RecordKinds.{Known, has_code, constant_kinds, constants_in, all_of}
use Rattle.bc_records.specs.RecordFaults.{constants_table}
use Rattle.bc_records.proofs.BodiesOnce.{parts_same}
use Rattle.bc_records.proofs.FreeSites.{FreeRecords, free_flat}
use Rattle.bc_records.proofs.Tests.{below, unless, code_stays, Each, both_none, all_left, all_right, count_more}

abbrev pub kinds : ℕ → List Entry → Entry → List Entry → List ℕ
kinds n = λ before e after. constant_kinds n before e

set_free : (n ty : ℕ) (before : List Entry) → ty < n → constant_kinds n before (entry 1 (ty ∷ [])) ≡ []
set_free n ty before less = unless (nat_lt ty n) 3 (below ty n less)

-- records after a type was set
later_free : (n : ℕ) (before : List Entry) (rs : List ConstantRecord) → has_code 1 before ≡ true → All (NamesType n) rs → FreeRecords (kinds n) before (map constant_entry rs)
later_free n before [] has named = tt
later_free n before (set_type ty ∷ rs) has named = (
  set_free n ty before (All-head (NamesType n) (set_type ty) rs named),
  later_free n (before ++ entry 1 (ty ∷ []) ∷ []) rs (code_stays 1 before (entry 1 (ty ∷ [])) has) (All-tail (NamesType n) (set_type ty) rs named),
)
later_free n before (null_constant ∷ rs) has named =
    (unless (has_code 1 before) 6 has, later_free n (before ++ entry 2 [] ∷ []) rs (code_stays 1 before (entry 2 []) has) (All-tail (NamesType n) null_constant rs named))
later_free n before (undef_constant ∷ rs) has named =
    (unless (has_code 1 before) 6 has, later_free n (before ++ entry 3 [] ∷ []) rs (code_stays 1 before (entry 3 []) has) (All-tail (NamesType n) undef_constant rs named))
later_free n before (integer_constant k ∷ rs) has named =
    (unless (has_code 1 before) 6 has, later_free n (before ++ entry 4 (k ∷ []) ∷ []) rs (code_stays 1 before (entry 4 (k ∷ [])) has) (All-tail (NamesType n) (integer_constant k) rs named))

all_free : (n : ℕ) (rs : List ConstantRecord) → SetsTypeFirst rs → All (NamesType n) rs → FreeRecords (kinds n) [] (map constant_entry rs)
all_free n [] first named = tt
all_free n (set_type ty ∷ rs) first named =
    (set_free n ty [] (All-head (NamesType n) (set_type ty) rs named), later_free n (entry 1 (ty ∷ []) ∷ []) rs refl (All-tail (NamesType n) (set_type ty) rs named))
all_free n (null_constant ∷ rs) first named = absurd first
all_free n (undef_constant ∷ rs) first named = absurd first
all_free n (integer_constant k ∷ rs) first named = absurd first

-- each block has no fault, whatever its number
pub constants_free : (known : Known) (n : ℕ) (blocks : List Contents) (records : List (List ConstantRecord)) → length known.types ≡ n →
    map entries_in blocks ≡ map (map constant_entry) records → flat_map block_ids blocks ≡ [] → All SetsTypeFirst records → All (NamesType n) (flat_map (λ block. block) records) →
    Each (λ block. (number : ℕ) → All IsFree (sites (constants_table known) number block)) blocks
constants_free known n [] records long spelled none typed named = tt
constants_free known n (b ∷ bs) [] long spelled none typed named = absurd (omega (arith, ap length spelled))
constants_free known n (b ∷ bs) (r ∷ rs) long spelled none typed named =
    let same = parts_same (entries_in b) (map constant_entry r) (map entries_in bs) (map (map constant_entry) rs) spelled in
    let apart = both_none (block_ids b) (flat_map block_ids bs) none in
    let own : FreeRecords (kinds n) [] (map constant_entry r)
    = all_free n r (All-head SetsTypeFirst r rs typed) (all_left (NamesType n) r (flat_map (λ block. block) rs) named) in (
      (λ number. free_flat (constants_table known) number b apart.0
          (subst (λ k. FreeRecords (kinds k) [] (entries_in b)) (sym long) (subst (FreeRecords (kinds n) []) (sym same.0) own)) refl),
      constants_free known n bs rs long same.1 apart.1 (All-tail SetsTypeFirst r rs typed) (all_right (NamesType n) r (flat_map (λ block. block) rs) named),
    )

-- how many constants there are

one_count : (ty : ℕ) (rs : List ConstantRecord) → constants_in (map constant_entry rs) ≡ length (constants_of ty rs)
one_count ty [] = refl
one_count ty (set_type next ∷ rs) = one_count next rs
one_count ty (null_constant ∷ rs) = omega (arith, one_count ty rs)
one_count ty (undef_constant ∷ rs) = omega (arith, one_count ty rs)
one_count ty (integer_constant k ∷ rs) = omega (arith, one_count ty rs)

pub constants_long : (blocks : List Contents) (records : List (List ConstantRecord)) → map entries_in blocks ≡ map (map constant_entry) records →
    constants_in (all_of blocks) ≡ length (flat_map (constants_of 0) records)
constants_long [] [] spelled = refl
constants_long [] (r ∷ rs) spelled = absurd (omega (arith, ap length spelled))
constants_long (b ∷ bs) [] spelled = absurd (omega (arith, ap length spelled))
constants_long (b ∷ bs) (r ∷ rs) spelled =
    let same = parts_same (entries_in b) (map constant_entry r) (map entries_in bs) (map (map constant_entry) rs) spelled in
    let one : constants_in (entries_in b) ≡ length (constants_of 0 r) = ap constants_in same.0 ∙ one_count 0 r in
    omega (
      arith,
      one,
      constants_long bs rs same.1,
      length-append (constants_of 0 r) (flat_map (constants_of 0) rs),
      count_more 2 (entries_in b) (all_of bs),
      count_more 3 (entries_in b) (all_of bs),
      count_more 4 (entries_in b) (all_of bs),
    )

-- Blocks of constants without a fault are recorded, and each constant has a type.
use Rattle.std.proofs.Common.{◌≡◌, ℕ, ◌<◌, List, [], ◌∷◌, ◌++◌, map, length, refl, ap, sym, ◌∙◌, subst, arith}
use Rattle.std.specs.Prelude.{false, ◌==◌, nat_lt, All, flat_map}
use Rattle.std.proofs.lemmas.Bool.{ltb-true}
use Rattle.std.proofs.lemmas.List.Elements.{All-nil, All-cons, All-head, All-tail}
use Rattle.ir_core.specs.declared.module.Const.{Const}
use Rattle.ir_core.specs.declared.module.ConstValue.{ConstValue}
use Rattle.ir_core.specs.declared.module.ConstValue.TheVariants.{Null, Undef, Int}
use Rattle.ir_core.specs.Soundness.{Names}
use Rattle.bc_stream.specs.Blocks.{Contents}
use Rattle.bc_records.specs.Entries.{Entry, entry, IsWord, entries_in}
use Rattle.bc_records.specs.ConstantRecords.{ConstantRecord, set_type, null_constant, undef_constant, integer_constant, constant_entry, signed_value, constants_of, SetsTypeFirst, NamesType, ConstantsRecorded}
use Rattle.bc_records.specs.Ranges.{ConstInRange}
use Rattle.bc_records.specs.Read.{read_constant}
use Rattle.bc_records.specs.RecordKinds.{operand, counts, kind_unless, has_code, constant_kinds, constants_in, all_of}
use Rattle.bc_records.proofs.FreeSites.{FreeRecords}
use Rattle.bc_records.proofs.FreeConstants.{kinds, constants_long}
use Rattle.bc_records.proofs.Tests.{Each}
use Rattle.bc_records.proofs.Told.{Plain, no_ids, flat_map_map, all_blocks_spelled, all_in_blocks, choose, some_kind, told_unless, told_two, word_same, no_operands, one_operand}

-- each record is spelled as it is read

abbrev IsSpelled : ℕ → List Entry → List ℕ → ℕ → Type 0
IsSpelled n before ops code = constant_kinds n before (entry code ops) ≡ [] → entry code ops ≡ constant_entry (read_constant (entry code ops))

set_spelled : (n : ℕ) (before : List Entry) (ops : List ℕ) → IsWord n → IsSpelled n before ops 1
set_spelled n before ops few free =
    let told = told_two (counts ops 1) (nat_lt (operand ops 0) n) 2 3 free in
    let less = ltb-true (operand ops 0) n told.1 in
    ap (entry 1) (one_operand ops told.0 ∙ ap (λ x. x ∷ []) (sym (word_same (operand ops 0) (omega (arith, less, few)))))

other_code : (n : ℕ) (before : List Entry) (ops : List ℕ) (code : ℕ) → (code == 1) ≡ false → (code == 2) ≡ false → (code == 3) ≡ false → (code == 4) ≡ false →
    constant_kinds n before (entry code ops) ≡ 8 ∷ []
other_code n before ops code a b c d = rw a (rw b (rw c (rw d refl)))

spelled : (n : ℕ) (before : List Entry) (code : ℕ) (ops : List ℕ) → IsWord n → IsSpelled n before ops code
spelled n before code ops few =
    let P : ℕ → Type 0 = IsSpelled n before ops in
    choose P code 1 (set_spelled n before ops few) (λ a.
    choose P code 2 (λ free. ap (entry 2) (no_operands ops (told_two (counts ops 0) (has_code 1 before) 2 6 free).0)) (λ b.
    choose P code 3 (λ free. ap (entry 3) (no_operands ops (told_two (counts ops 0) (has_code 1 before) 2 6 free).0)) (λ c.
    choose P code 4 (λ free. ap (entry 4) (one_operand ops (told_two (counts ops 1) (has_code 1 before) 2 6 free).0)) (λ d free.
    some_kind 8 [] (sym (other_code n before ops code a b c d) ∙ free)))))

all_spelled : (n : ℕ) (before es : List Entry) → IsWord n → FreeRecords (kinds n) before es → es ≡ map constant_entry (map read_constant es)
all_spelled n before [] few free = refl
all_spelled n before (entry code ops ∷ es) few free =
    let e : Entry = entry code ops in
    ap (λ x. x ∷ es) (spelled n before code ops few free.0) ∙ ap (λ xs. constant_entry (read_constant e) ∷ xs) (all_spelled n (before ++ e ∷ []) es few free.1)

-- a type is set first, and names one

type_told : (n ty : ℕ) (before : List Entry) → constant_kinds n before (entry 1 (ty ∷ [])) ≡ [] → ty < n
type_told n ty before free = ltb-true ty n (told_unless (nat_lt ty n) 3 free)

types_told : (n : ℕ) (before : List Entry) (rs : List ConstantRecord) → FreeRecords (kinds n) before (map constant_entry rs) → All (NamesType n) rs
types_told n before [] free = All-nil (NamesType n)
types_told n before (set_type ty ∷ rs) free =
    All-cons (NamesType n) (set_type ty) rs (type_told n ty before free.0) (types_told n (before ++ entry 1 (ty ∷ []) ∷ []) rs free.1)
types_told n before (null_constant ∷ rs) free = All-cons (NamesType n) null_constant rs tt (types_told n (before ++ entry 2 [] ∷ []) rs free.1)
types_told n before (undef_constant ∷ rs) free = All-cons (NamesType n) undef_constant rs tt (types_told n (before ++ entry 3 [] ∷ []) rs free.1)
types_told n before (integer_constant k ∷ rs) free = All-cons (NamesType n) (integer_constant k) rs tt (types_told n (before ++ entry 4 (k ∷ []) ∷ []) rs free.1)

unset : {P : Type 0} (kinds : List ℕ) → kinds ≡ kind_unless (has_code 1 []) 6 → kinds ≡ [] → P
unset kinds six none = some_kind 6 [] (sym six ∙ none)

first_told : (n : ℕ) (rs : List ConstantRecord) → FreeRecords (kinds n) [] (map constant_entry rs) → SetsTypeFirst rs
first_told n [] free = tt
first_told n (set_type ty ∷ rs) free = tt
first_told n (null_constant ∷ rs) free = unset (constant_kinds n [] (entry 2 [])) refl free.0
first_told n (undef_constant ∷ rs) free = unset (constant_kinds n [] (entry 3 [])) refl free.0
first_told n (integer_constant k ∷ rs) free = unset (constant_kinds n [] (entry 4 (k ∷ []))) refl free.0

-- the constants that records say

abbrev Typed : ℕ → Const → Type 0
Typed n c = Names n c.ty

abbrev const : ℕ → ConstValue → Const
const ty value = record { ty = ty; value = value }

later_typed : (n ty : ℕ) (rs : List ConstantRecord) → ty < n → All (NamesType n) rs → All (Typed n) (constants_of ty rs)
later_typed n ty [] less named = All-nil (Typed n)
later_typed n ty (set_type next ∷ rs) less named = later_typed n next rs (All-head (NamesType n) (set_type next) rs named) (All-tail (NamesType n) (set_type next) rs named)
later_typed n ty (null_constant ∷ rs) less named =
    All-cons (Typed n) (const ty Null) (constants_of ty rs) less (later_typed n ty rs less (All-tail (NamesType n) null_constant rs named))
later_typed n ty (undef_constant ∷ rs) less named =
    All-cons (Typed n) (const ty Undef) (constants_of ty rs) less (later_typed n ty rs less (All-tail (NamesType n) undef_constant rs named))
later_typed n ty (integer_constant k ∷ rs) less named =
    All-cons (Typed n) (const ty (Int (signed_value k))) (constants_of ty rs) less (later_typed n ty rs less (All-tail (NamesType n) (integer_constant k) rs named))

all_typed : (n : ℕ) (rs : List ConstantRecord) → SetsTypeFirst rs → All (NamesType n) rs → All (Typed n) (constants_of 0 rs)
all_typed n [] first named = All-nil (Typed n)
all_typed n (set_type ty ∷ rs) first named = later_typed n ty rs (All-head (NamesType n) (set_type ty) rs named) (All-tail (NamesType n) (set_type ty) rs named)
all_typed n (null_constant ∷ rs) first named = absurd first
all_typed n (undef_constant ∷ rs) first named = absurd first
all_typed n (integer_constant k ∷ rs) first named = absurd first

-- all blocks

abbrev records_of : Contents → List ConstantRecord
records_of block = map read_constant (entries_in block)

abbrev constants_in_block : Contents → List Const
constants_in_block block = constants_of 0 (records_of block)

-- what one block tells
record BlockTold (n : ℕ) (block : Contents) : Type 0 where
  pub spelled : entries_in block ≡ map constant_entry (records_of block)
  pub first : SetsTypeFirst (records_of block)
  pub named : All (NamesType n) (records_of block)

block_told : (n : ℕ) (block : Contents) → IsWord n → FreeRecords (kinds n) [] (entries_in block) → BlockTold n block
block_told n block few free =
    let same : entries_in block ≡ map constant_entry (records_of block) = all_spelled n [] (entries_in block) few free in
    let records : FreeRecords (kinds n) [] (map constant_entry (records_of block)) = subst (FreeRecords (kinds n) []) same free in
    record { spelled = same; first = first_told n (records_of block) records; named = types_told n [] (records_of block) records }

all_first : (n : ℕ) (bs : List Contents) → IsWord n → Each (Plain (kinds n)) bs → All SetsTypeFirst (map records_of bs)
all_first n [] few plain = All-nil SetsTypeFirst
all_first n (b ∷ bs) few plain = All-cons SetsTypeFirst (records_of b) (map records_of bs) (block_told n b few plain.0.1).first (all_first n bs few plain.1)

-- what is told of blocks of constants and the constants that they say, where there are n types
pub record ConstantsTold (n : ℕ) (blocks : List Contents) (constants : List Const) : Type 0 where
  pub recorded : ConstantsRecorded n blocks constants
  pub sound : All (λ (c : Const). Names n c.ty) constants
  pub range : All ConstInRange constants
  pub long : constants_in (all_of blocks) ≡ length constants

pub constants_told : (n : ℕ) (blocks : List Contents) → IsWord n → Each (Plain (λ before e after. constant_kinds n before e)) blocks →
    ConstantsTold n blocks (flat_map (λ block. constants_of 0 (map read_constant (entries_in block))) blocks)
constants_told n blocks few plain =
    let same : map entries_in blocks ≡ map (map constant_entry) (map records_of blocks)
    = all_blocks_spelled (kinds n) (map constant_entry) records_of (λ b free. (block_told n b few free).spelled) blocks plain in
    let values : flat_map (constants_of 0) (map records_of blocks) ≡ flat_map constants_in_block blocks = flat_map_map records_of (constants_of 0) blocks in
    let named : All (NamesType n) (flat_map records_of blocks) = all_in_blocks (NamesType n) (kinds n) records_of (λ b free. (block_told n b few free).named) blocks plain in
    let sound : All (Typed n) (flat_map constants_in_block blocks)
    = all_in_blocks (Typed n) (kinds n) constants_in_block (λ b free. let told = block_told n b few free in all_typed n (records_of b) told.first told.named) blocks plain in
    record {
      recorded = record {
        records = map records_of blocks;
        spelled = same;
        no_blocks = no_ids (kinds n) blocks plain;
        typed = all_first n blocks few plain;
        named = subst (All (NamesType n)) (sym (flat_map_map records_of (λ block. block) blocks)) named;
        values = values;
      };
      sound = sound;
      range = λ k d within. omega (arith, sound k d within, few);
      long = constants_long blocks (map records_of blocks) same ∙ ap length values;
    }

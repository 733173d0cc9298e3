-- Blocks of names without a fault are recorded: each function has the name that they give it.
use mathlib.Core.Logic.{◌⊎◌, inl, inr}
use Rattle.std.proofs.Common.{◌≡◌, ℕ, zero, suc, ◌+◌, ◌<◌, ◌≤◌, List, [], ◌∷◌, ◌++◌, map, length, refl, ap, sym, ◌∙◌, subst, arith}
use Rattle.std.specs.Prelude.{◌≢◌, Bool, true, false, ◌==◌, ◌&&◌, if◌then◌else◌, nat_lt, nat_le, drop, All, flat_map}
use Rattle.std.proofs.lemmas.Bool.{ltb-true, both_ways, or_left, or_right}
use Rattle.std.proofs.lemmas.Bool.Decides.{eqb_tells}
use Rattle.std.proofs.lemmas.List.{length-map}
use Rattle.std.proofs.lemmas.List.Elements.{All-nil, All-cons, All-head, All-tail}
use Rattle.ir_core.specs.declared.module.Function.{Function}
use Rattle.bc_stream.specs.Blocks.{Contents}
use Rattle.bc_records.specs.Entries.{Entry, entry, entries_in, block_ids, IsText}
use Rattle.bc_records.specs.SymbolRecords.{SymbolRecord, symbol, symbol_entry, name_of, IsOf, IsOther, NamesOnce, NamedFrom, SymbolsRecorded}
use Rattle.bc_records.specs.Read.{read_symbol, with_name, with_names}
use Rattle.bc_records.specs.RecordKinds.{code_of, operands_of, operand, is_text, kind_if, kind_unless, names_value, symbol_kinds, all_of}
use Rattle.bc_records.proofs.FreeSites.{FreeRecords, more_none}
use Rattle.bc_records.proofs.FreeSymbols.{HasText, joined}
use Rattle.bc_records.proofs.Tests.{below, equal, both, both_none, no_kinds, either_stays}
use Rattle.bc_records.proofs.Told.{Plain, choose, some_kind, told_unless, told_if, told_text, text_same, first_operands}

-- blocks without a fault, after the records of the blocks before them
abbrev pub PlainSymbols : ℕ → List Entry → List Contents → Type 0
PlainSymbols n earlier [] = Unit {0}
PlainSymbols n earlier (b ∷ bs) = Plain (λ before e after. symbol_kinds n (earlier ++ before) e) b × PlainSymbols n (earlier ++ entries_in b) bs

-- one record

record NameTold (n : ℕ) (earlier : List Entry) (ops : List ℕ) : Type 0 where
  pub long : nat_le 1 (length ops) ≡ true
  pub of : operand ops 0 < n
  pub unnamed : names_value (operand ops 0) earlier ≡ false
  pub chars : IsText (drop 1 ops)

name_told : (n : ℕ) (earlier : List Entry) (ops : List ℕ) → symbol_kinds n earlier (entry 1 ops) ≡ [] → NameTold n earlier ops
name_told n earlier ops free =
    let value : ℕ = operand ops 0 in
    let two : List ℕ = kind_unless (nat_le 1 (length ops)) 2 in
    let three : List ℕ = kind_unless (nat_lt value n) 3 in
    let six : List ℕ = kind_if (names_value value earlier) 6 in
    let seven : List ℕ = kind_unless (is_text (drop 1 ops)) 7 in
    let first = both_none two (three ++ (six ++ seven)) free in
    let second = both_none three (six ++ seven) first.1 in
    let third = both_none six seven second.1 in
    record {
      long = told_unless (nat_le 1 (length ops)) 2 first.0;
      of = ltb-true value n (told_unless (nat_lt value n) 3 second.0);
      unnamed = told_if (names_value value earlier) 6 third.0;
      chars = told_text (drop 1 ops) (told_unless (is_text (drop 1 ops)) 7 third.1);
    }

abbrev IsSpelled : ℕ → List Entry → List ℕ → ℕ → Type 0
IsSpelled n earlier ops code = symbol_kinds n earlier (entry code ops) ≡ [] → entry code ops ≡ symbol_entry (read_symbol (entry code ops))

other_code : (n : ℕ) (earlier : List Entry) (ops : List ℕ) (code : ℕ) → (code == 1) ≡ false → symbol_kinds n earlier (entry code ops) ≡ 8 ∷ []
other_code n earlier ops code other = rw other refl

spelled : (n : ℕ) (earlier : List Entry) (code : ℕ) (ops : List ℕ) → IsSpelled n earlier ops code
spelled n earlier code ops =
    choose (IsSpelled n earlier ops) code 1 (λ free.
    let told = name_told n earlier ops free in
    ap (entry 1) (first_operands ops told.long ∙ ap (λ xs. operand ops 0 ∷ xs) (sym (text_same (drop 1 ops) told.chars)))) (λ other free.
    some_kind 8 [] (sym (other_code n earlier ops code other) ∙ free))

abbrev kinds : ℕ → List Entry → Entry → List Entry → List ℕ
kinds n = λ before e after. symbol_kinds n before e

all_spelled : (n : ℕ) (before es : List Entry) → FreeRecords (kinds n) before es → es ≡ map symbol_entry (map read_symbol es)
all_spelled n before [] free = refl
all_spelled n before (entry code ops ∷ es) free =
    let e : Entry = entry code ops in
    ap (λ x. x ∷ es) (spelled n before code ops free.0) ∙ ap (λ xs. symbol_entry (read_symbol e) ∷ xs) (all_spelled n (before ++ e ∷ []) es free.1)

-- the records of all blocks as those of one

shifted : (n : ℕ) (earlier before es : List Entry) → FreeRecords (λ b e after. symbol_kinds n (earlier ++ b) e) before es → FreeRecords (kinds n) (earlier ++ before) es
shifted n earlier before [] free = tt
shifted n earlier before (e ∷ es) free =
    (free.0, subst (λ b. FreeRecords (kinds n) b es) (sym (joined earlier before (e ∷ []))) (shifted n earlier (before ++ e ∷ []) es free.1))

own_records : (n : ℕ) (earlier : List Entry) (b : Contents) → Plain (λ before e after. symbol_kinds n (earlier ++ before) e) b → FreeRecords (kinds n) earlier (entries_in b)
own_records n earlier b plain = subst (λ es. FreeRecords (kinds n) es (entries_in b)) (more_none earlier) (shifted n earlier [] (entries_in b) plain.1)

appended : (n : ℕ) (before xs ys : List Entry) → FreeRecords (kinds n) before xs → FreeRecords (kinds n) (before ++ xs) ys → FreeRecords (kinds n) before (xs ++ ys)
appended n before [] ys free later = subst (λ b. FreeRecords (kinds n) b ys) (more_none before) later
appended n before (x ∷ xs) ys free later =
    (free.0, appended n (before ++ x ∷ []) xs ys free.1 (subst (λ b. FreeRecords (kinds n) b ys) (sym (joined before (x ∷ []) xs)) later))

all_records : (n : ℕ) (earlier : List Entry) (bs : List Contents) → PlainSymbols n earlier bs → FreeRecords (kinds n) earlier (all_of bs)
all_records n earlier [] plain = tt
all_records n earlier (b ∷ bs) plain =
    appended n earlier (entries_in b) (all_of bs) (own_records n earlier b plain.0) (all_records n (earlier ++ entries_in b) bs plain.1)

no_ids : (n : ℕ) (earlier : List Entry) (bs : List Contents) → PlainSymbols n earlier bs → flat_map block_ids bs ≡ []
no_ids n earlier [] plain = refl
no_ids n earlier (b ∷ bs) plain = no_kinds (block_ids b) (flat_map block_ids bs) plain.0.0 (no_ids n (earlier ++ entries_in b) bs plain.1)

abbrev records_of : Contents → List SymbolRecord
records_of block = map read_symbol (entries_in block)

all_blocks_spelled : (n : ℕ) (earlier : List Entry) (bs : List Contents) → PlainSymbols n earlier bs → map entries_in bs ≡ map (map symbol_entry) (map records_of bs)
all_blocks_spelled n earlier [] plain = refl
all_blocks_spelled n earlier (b ∷ bs) plain =
    ap (λ x. x ∷ map entries_in bs) (all_spelled n earlier (entries_in b) (own_records n earlier b plain.0))
    ∙ ap (λ xs. map symbol_entry (records_of b) ∷ xs) (all_blocks_spelled n (earlier ++ entries_in b) bs plain.1)

read_append : (xs ys : List Entry) → map read_symbol xs ++ map read_symbol ys ≡ map read_symbol (xs ++ ys)
read_append [] ys = refl
read_append (x ∷ xs) ys = ap (λ rs. read_symbol x ∷ rs) (read_append xs ys)

all_read : (bs : List Contents) → flat_map (λ block. block) (map records_of bs) ≡ map read_symbol (all_of bs)
all_read [] = refl
all_read (b ∷ bs) = ap (λ rs. records_of b ++ rs) (all_read bs) ∙ read_append (entries_in b) (all_of bs)

-- what all records tell

values_told : (n : ℕ) (before : List Entry) (rs : List SymbolRecord) → FreeRecords (kinds n) before (map symbol_entry rs) → All (IsOf n) rs
values_told n before [] free = All-nil (IsOf n)
values_told n before (symbol v name ∷ rs) free =
    All-cons (IsOf n) (symbol v name) rs (name_told n before (v ∷ name) free.0).of (values_told n (before ++ entry 1 (v ∷ name) ∷ []) rs free.1)

texts_told : (n : ℕ) (before : List Entry) (rs : List SymbolRecord) → FreeRecords (kinds n) before (map symbol_entry rs) → All HasText rs
texts_told n before [] free = All-nil HasText
texts_told n before (symbol v name ∷ rs) free =
    All-cons HasText (symbol v name) rs (name_told n before (v ∷ name) free.0).chars (texts_told n (before ++ entry 1 (v ∷ name) ∷ []) rs free.1)

abbrev names_it : ℕ → Entry → Bool
names_it value e = (code_of e == 1) && (nat_lt 0 (length (operands_of e)) && (operand (operands_of e) 0 == value))

value_stays : (v : ℕ) (before : List Entry) (e : Entry) → names_value v before ≡ true → names_value v (before ++ e ∷ []) ≡ true
value_stays v [] e has = absurd (both_ways (names_value v []) refl has)
value_stays v (x ∷ xs) e has = either_stays (names_it v x) (names_value v xs) (names_value v (xs ++ e ∷ [])) (value_stays v xs e) has

value_here : (v : ℕ) (before : List Entry) (name : List ℕ) → names_value v (before ++ entry 1 (v ∷ name) ∷ []) ≡ true
value_here v [] name =
    or_left (nat_lt 0 (length (v ∷ name)) && (v == v)) false (both (nat_lt 0 (length (v ∷ name))) (v == v) (below 0 (length (v ∷ name)) (omega arith)) (equal v v refl))
value_here v (x ∷ xs) name = or_right (names_it v x) (names_value v (xs ++ entry 1 (v ∷ name) ∷ [])) (value_here v xs name)

others_told : (n v : ℕ) (before : List Entry) (rs : List SymbolRecord) → names_value v before ≡ true → FreeRecords (kinds n) before (map symbol_entry rs) → All (IsOther v) rs
others_told n v before [] has free = All-nil (IsOther v)
others_told n v before (symbol w name ∷ rs) has free =
    All-cons (IsOther v) (symbol w name) rs
    (λ same. both_ways (names_value w before) (name_told n before (w ∷ name) free.0).unnamed (subst (λ x. names_value x before ≡ true) (sym same) has))
    (others_told n v (before ++ entry 1 (w ∷ name) ∷ []) rs (value_stays v before (entry 1 (w ∷ name)) has) free.1)

once_told : (n : ℕ) (before : List Entry) (rs : List SymbolRecord) → FreeRecords (kinds n) before (map symbol_entry rs) → NamesOnce rs
once_told n before [] free = tt
once_told n before (symbol v name ∷ rs) free =
    let b : List Entry = before ++ entry 1 (v ∷ name) ∷ [] in
    (others_told n v b rs (value_here v before name) free.1, once_told n b rs free.1)

-- the names of functions

-- functions have names by their numbers, from one on
abbrev NamesAre : (first : ℕ) → (ℕ → List ℕ) → List Function → Type 0
NamesAre first names [] = Unit {0}
NamesAre first names (f ∷ fs) = (names first ≡ f.name) × NamesAre (suc first) names fs

names_same : (first : ℕ) (names others : ℕ → List ℕ) (fs : List Function) → ((i : ℕ) → first ≤ i → others i ≡ names i) → NamesAre first names fs → NamesAre first others fs
names_same first names others [] same are = tt
names_same first names others (f ∷ fs) same are =
    (same first (omega arith) ∙ are.0, names_same (suc first) names others fs (λ i above. same i (omega (arith, above))) are.1)

abbrev pick : ℕ → List ℕ → (ℕ → List ℕ) → ℕ → List ℕ
pick value name names i = if value == i then name else names i

pick_here : (value : ℕ) (name : List ℕ) (names : ℕ → List ℕ) (i : ℕ) → value ≡ i → pick value name names i ≡ name
pick_here value name names i same = ap (λ b. if b then name else names i) (equal value i same)

pick_other : (value : ℕ) (name : List ℕ) (names : ℕ → List ℕ) (i : ℕ) → value ≢ i → pick value name names i ≡ names i
pick_other value name names i other = by (eqb_tells value i)
  where
    by : (((value == i) ≡ true) × (value ≡ i)) ⊎ (((value == i) ≡ false) × (value ≢ i)) → pick value name names i ≡ names i
    by (inl h) = absurd (other h.1)
    by (inr h) = ap (λ b. if b then name else names i) h.0

one_name : (first value : ℕ) (names : ℕ → List ℕ) (fs : List Function) (place : ℕ) (name : List ℕ) → first + place ≡ value → NamesAre first names fs →
    NamesAre first (pick value name names) (with_name fs place name)
one_name first value names [] place name at are = tt
one_name first value names (f ∷ fs) zero name at are = (
  pick_here value name names first (omega (arith, at)),
  names_same (suc first) names (pick value name names) fs (λ i above. pick_other value name names i (λ same. absurd (omega (arith, at, above, same)))) are.1,
)
one_name first value names (f ∷ fs) (suc place) name at are = (
  pick_other value name names first (λ same. absurd (omega (arith, at, same))) ∙ are.0,
  one_name (suc first) value names fs place name (omega (arith, at)) are.1,
)

-- the name that records give a value, or the one that it had
abbrev named_by : List SymbolRecord → List ℕ → ℕ → List ℕ
named_by [] name i = name
named_by (symbol v given ∷ rs) name i = if v == i then given else named_by rs name i

kept : (v : ℕ) (rs : List SymbolRecord) (name : List ℕ) → All (IsOther v) rs → named_by rs name v ≡ name
kept v [] name others = refl
kept v (symbol w given ∷ rs) name others =
    pick_other w given (λ i. named_by rs name i) v (All-head (IsOther v) (symbol w given) rs others) ∙ kept v rs name (All-tail (IsOther v) (symbol w given) rs others)

one_more : (v : ℕ) (given : List ℕ) (rs : List SymbolRecord) (names : ℕ → List ℕ) (i : ℕ) → All (IsOther v) rs →
    named_by (symbol v given ∷ rs) (names i) i ≡ named_by rs (pick v given names i) i
one_more v given rs names i others = by (eqb_tells v i)
  where
    by : (((v == i) ≡ true) × (v ≡ i)) ⊎ (((v == i) ≡ false) × (v ≢ i)) → named_by (symbol v given ∷ rs) (names i) i ≡ named_by rs (pick v given names i) i
    by (inl h) =
        ap (λ b. if b then given else named_by rs (names i) i) h.0
        ∙ sym (ap (λ name. named_by rs name i) (pick_here v given names i h.1) ∙ subst (λ x. named_by rs given x ≡ given) h.1 (kept v rs given others))
    by (inr h) =
        ap (λ b. if b then given else named_by rs (names i) i) h.0 ∙ ap (λ name. named_by rs name i) (sym (pick_other v given names i h.1))

all_names : (names : ℕ → List ℕ) (fs : List Function) (rs : List SymbolRecord) → NamesOnce rs → NamesAre 0 names fs → NamesAre 0 (λ i. named_by rs (names i) i) (with_names fs rs)
all_names names fs [] once are = are
all_names names fs (symbol v given ∷ rs) once are =
    names_same 0 (λ i. named_by rs (pick v given names i) i) (λ i. named_by (symbol v given ∷ rs) (names i) i) (with_names (with_name fs v given) rs)
    (λ i above. one_more v given rs names i once.0) (all_names (pick v given names) (with_name fs v given) rs once.1 (one_name 0 v names fs v given (omega arith) are))

by_name_of : (rs : List SymbolRecord) (i : ℕ) → name_of rs i ≡ named_by rs [] i
by_name_of [] i = refl
by_name_of (symbol v given ∷ rs) i = ap (λ name. if v == i then given else name) (by_name_of rs i)

named_from : (first : ℕ) (rs : List SymbolRecord) (fs : List Function) → NamesAre first (λ i. named_by rs [] i) fs → NamedFrom first rs (map (λ (f : Function). f.name) fs)
named_from first rs [] are = tt
named_from first rs (f ∷ fs) are = (by_name_of rs first ∙ are.0, named_from (suc first) rs fs are.1)

none_named : (first : ℕ) (fs : List Function) → All (λ (f : Function). f.name ≡ []) fs → NamesAre first (λ i. []) fs
none_named first [] unnamed = tt
none_named first (f ∷ fs) unnamed =
    (sym (All-head (λ (f : Function). f.name ≡ []) f fs unnamed), none_named (suc first) fs (All-tail (λ (f : Function). f.name ≡ []) f fs unnamed))

abbrev Spelt : Function → Type 0
Spelt f = IsText f.name

one_text : (fs : List Function) (place : ℕ) (name : List ℕ) → IsText name → All Spelt fs → All Spelt (with_name fs place name)
one_text [] place name is all = All-nil Spelt
one_text (f ∷ fs) zero name is all = All-cons Spelt (record { name = name; ty = f.ty; body = f.body }) fs is (All-tail Spelt f fs all)
one_text (f ∷ fs) (suc place) name is all = All-cons Spelt f (with_name fs place name) (All-head Spelt f fs all) (one_text fs place name is (All-tail Spelt f fs all))

all_texts : (fs : List Function) (rs : List SymbolRecord) → All HasText rs → All Spelt fs → All Spelt (with_names fs rs)
all_texts fs [] texts all = all
all_texts fs (symbol v name ∷ rs) texts all =
    all_texts (with_name fs v name) rs (All-tail HasText (symbol v name) rs texts) (one_text fs v name (All-head HasText (symbol v name) rs texts) all)

empty_texts : (fs : List Function) → All (λ (f : Function). f.name ≡ []) fs → All Spelt fs
empty_texts fs unnamed = λ k d within. subst IsText (sym (unnamed k d within)) (All-nil (λ c. c < 256))

-- what is told of blocks of names and the functions that they name
pub record SymbolsTold (n : ℕ) (blocks : List Contents) (functions : List Function) : Type 0 where
  pub recorded : SymbolsRecorded n blocks (map (λ (f : Function). f.name) functions)
  pub texts : All (λ (f : Function). IsText f.name) functions

pub symbols_told : (n : ℕ) (blocks : List Contents) (fs : List Function) → PlainSymbols n [] blocks → length fs ≡ n → All (λ (f : Function). f.name ≡ []) fs →
    SymbolsTold n blocks (with_names fs (map read_symbol (all_of blocks)))
symbols_told n blocks fs plain long unnamed =
    let es : List Entry = all_of blocks in
    let rs : List SymbolRecord = map read_symbol es in
    let free : FreeRecords (kinds n) [] es = all_records n [] blocks plain in
    let records : FreeRecords (kinds n) [] (map symbol_entry rs) = subst (FreeRecords (kinds n) []) (all_spelled n [] es free) free in
    let read : flat_map (λ block. block) (map records_of blocks) ≡ rs = all_read blocks in
    let once : NamesOnce rs = once_told n [] rs records in
    let names : NamesAre 0 (λ i. named_by rs [] i) (with_names fs rs) = all_names (λ i. []) fs rs once (none_named 0 fs unnamed) in
    record {
      recorded = record {
        records = map records_of blocks;
        spelled = all_blocks_spelled n [] blocks plain;
        no_blocks = no_ids n [] blocks plain;
        of_values = subst (All (IsOf n)) (sym read) (values_told n [] rs records);
        once = subst NamesOnce (sym read) once;
        names_are = subst (λ all. NamedFrom 0 all (map (λ (f : Function). f.name) (with_names fs rs))) (sym read) (named_from 0 rs (with_names fs rs) names);
      };
      texts = all_texts fs rs (texts_told n [] rs records) (empty_texts fs unnamed);
    }

-- names change nothing else: what is said of functions whatever their names stays the same

one_keeps : {A : Type 0} (said : Function → A) → ((f : Function) (name : List ℕ) → said (record { name = name; ty = f.ty; body = f.body }) ≡ said f) →
    (fs : List Function) (place : ℕ) (name : List ℕ) → map said (with_name fs place name) ≡ map said fs
one_keeps said same [] place name = refl
one_keeps said same (f ∷ fs) zero name = ap (λ x. x ∷ map said fs) (same f name)
one_keeps said same (f ∷ fs) (suc place) name = ap (λ xs. said f ∷ xs) (one_keeps said same fs place name)

pub with_names_keep : {A : Type 0} (said : Function → A) → ((f : Function) (name : List ℕ) → said (record { name = name; ty = f.ty; body = f.body }) ≡ said f) →
    (fs : List Function) (rs : List SymbolRecord) → map said (with_names fs rs) ≡ map said fs
with_names_keep said same fs [] = refl
with_names_keep said same fs (symbol v name ∷ rs) = with_names_keep said same (with_name fs v name) rs ∙ one_keeps said same fs v name

pub with_names_long : (fs : List Function) (rs : List SymbolRecord) → length (with_names fs rs) ≡ length fs
with_names_long fs rs =
    let types : map (λ (f : Function). f.ty) (with_names fs rs) ≡ map (λ (f : Function). f.ty) fs = with_names_keep (λ (f : Function). f.ty) (λ f name. refl) fs rs in
    sym (length-map (with_names fs rs) (λ (f : Function). f.ty)) ∙ (ap length types ∙ length-map fs (λ (f : Function). f.ty))

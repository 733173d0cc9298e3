-- Blocks that hold the names of functions have no fault.
use Rattle.std.proofs.Common.{◌≡◌, ℕ, zero, suc, ◌+◌, ◌<◌, List, [], ◌∷◌, ◌++◌, map, length, refl, ap, sym, ◌∙◌, subst, arith}
use mathlib.Core.Logic.{◌⊎◌, inl, inr}
use Rattle.std.proofs.lemmas.Bool.Decides.{eqb_tells}
use Rattle.std.specs.Prelude.{◌≢◌, ◌==◌, if◌then◌else◌, get_or, ◌||◌, ◌&&◌, Bool, true, false, nat_lt, nat_le, All, flat_map}
use Rattle.std.proofs.lemmas.List.Elements.{All-head, All-tail, All-nil, All-cons}
use Rattle.bc_stream.specs.Blocks.{Contents}
use Rattle.bc_records.specs.Entries.{Entry, entry, entries_in, block_ids, IsText}
use Rattle.bc_records.specs.SymbolRecords.{SymbolRecord, symbol, symbol_entry, IsOf, IsOther, NamesOnce, name_of, NamedFrom, SymbolsRecorded}
use Rattle.bc_records.specs.FaultSites.{IsFree, sites}
use Rattle.bc_records.specs.RecordKinds.{Known, kind_if, kind_unless, is_text, operand, names_value, symbol_kinds}
use Rattle.bc_records.specs.RecordFaults.{symbols_table}
use Rattle.bc_records.proofs.BodiesOnce.{parts_same}
use Rattle.bc_records.proofs.FreeSites.{FreeRecords, free_flat, more_none}
use Rattle.bc_records.proofs.Tests.{neither, equal, below, at_most, unless, no_kinds, text_passes, both_none, all_left, all_right}

-- the characters of a name
abbrev pub HasText : SymbolRecord → Type 0
HasText (symbol value name) = IsText name

-- no record names the value of another
abbrev Unnamed : List Entry → List SymbolRecord → Type 0
Unnamed earlier [] = Unit {0}
Unnamed earlier (symbol value name ∷ rs) = (names_value value earlier ≡ false) × Unnamed earlier rs

differ : (a b : ℕ) → a ≢ b → (a == b) ≡ false
differ a b other = grind arith

either_not : (a b : Bool) → a ≡ false → b ≡ false → (a || b) ≡ false
either_not a b p q = ap (λ x. x || b) p ∙ q

and_not : (a b : Bool) → b ≡ false → (a && b) ≡ false
and_not true b q = q
and_not false b q = refl

pub joined : {A : Type 0} (xs ys zs : List A) → (xs ++ ys) ++ zs ≡ xs ++ (ys ++ zs)
joined [] ys zs = refl
joined (x ∷ xs) ys zs = ap (λ l. x ∷ l) (joined xs ys zs)

names_more : (value : ℕ) (xs ys : List Entry) → names_value value xs ≡ false → names_value value ys ≡ false → names_value value (xs ++ ys) ≡ false
names_more value [] ys p q = q
names_more value (entry code ops ∷ es) ys p q =
    let own : Bool = (code == 1) && (nat_lt 0 (length ops) && (operand ops 0 == value)) in
    let apart = neither own (names_value value es) p in
    either_not own (names_value value (es ++ ys)) apart.0 (names_more value es ys apart.1 q)

names_other : (value named : ℕ) (name : List ℕ) → value ≢ named → names_value value (entry 1 (named ∷ name) ∷ []) ≡ false
names_other value named name other =
    either_not (nat_lt 0 (length (named ∷ name)) && (named == value)) false
    (and_not (nat_lt 0 (length (named ∷ name))) (named == value) (differ named value (λ same. other (sym same)))) refl

unnamed_more : (earlier : List Entry) (v : ℕ) (name : List ℕ) (rs : List SymbolRecord) → Unnamed earlier rs → All (IsOther v) rs →
    Unnamed (earlier ++ entry 1 (v ∷ name) ∷ []) rs
unnamed_more earlier v name [] un others = tt
unnamed_more earlier v name (symbol w other ∷ rs) un others = (
  names_more w earlier (entry 1 (v ∷ name) ∷ []) un.0 (names_other w v name (All-head (IsOther v) (symbol w other) rs others)),
  unnamed_more earlier v name rs un.1 (All-tail (IsOther v) (symbol w other) rs others),
)

unnamed_left : (earlier : List Entry) (xs ys : List SymbolRecord) → Unnamed earlier (xs ++ ys) → Unnamed earlier xs
unnamed_left earlier [] ys un = tt
unnamed_left earlier (symbol v name ∷ xs) ys un = (un.0, unnamed_left earlier xs ys un.1)

once_left : (xs ys : List SymbolRecord) → NamesOnce (xs ++ ys) → NamesOnce xs
once_left [] ys once = tt
once_left (symbol v name ∷ xs) ys once = (all_left (IsOther v) xs ys once.0, once_left xs ys once.1)

unnamed_after : (earlier : List Entry) (xs ys : List SymbolRecord) → Unnamed earlier (xs ++ ys) → NamesOnce (xs ++ ys) →
    Unnamed (earlier ++ map symbol_entry xs) ys × NamesOnce ys
unnamed_after earlier [] ys un once = (subst (λ es. Unnamed es ys) (sym (more_none earlier)) un, once)
unnamed_after earlier (symbol v name ∷ xs) ys un once =
    let e : Entry = entry 1 (v ∷ name) in
    let rest = unnamed_after (earlier ++ e ∷ []) xs ys (unnamed_more earlier v name (xs ++ ys) un.1 once.0) once.1 in
    (subst (λ es. Unnamed es ys) (joined earlier (e ∷ []) (map symbol_entry xs)) rest.0, rest.1)

-- the records of one block
all_free : (n : ℕ) (earlier before : List Entry) (rs : List SymbolRecord) → Unnamed (earlier ++ before) rs → NamesOnce rs → All (IsOf n) rs → All HasText rs →
    FreeRecords (λ b e after. symbol_kinds n (earlier ++ b) e) before (map symbol_entry rs)
all_free n earlier before [] un once of texts = tt
all_free n earlier before (symbol v name ∷ rs) un once of texts =
    let e : Entry = entry 1 (v ∷ name) in
    let long : Bool = nat_le 1 (length (v ∷ name)) in
    let seven : List ℕ = kind_unless (is_text name) 7 in
    let six : List ℕ = kind_if (names_value v (earlier ++ before)) 6 in
    let three : List ℕ = kind_unless (nat_lt v n) 3 in (
      no_kinds (kind_unless long 2) (three ++ (six ++ seven)) (unless long 2 (at_most 1 (length (v ∷ name)) (omega arith)))
          (no_kinds three (six ++ seven) (unless (nat_lt v n) 3 (below v n (All-head (IsOf n) (symbol v name) rs of)))
          (no_kinds six seven (ap (λ b. kind_if b 6) un.0) (unless (is_text name) 7 (text_passes name (All-head HasText (symbol v name) rs texts))))),
      all_free n earlier (before ++ e ∷ []) rs
          (subst (λ es. Unnamed es rs) (joined earlier before (e ∷ [])) (unnamed_more (earlier ++ before) v name rs un.1 once.0))
          once.1 (All-tail (IsOf n) (symbol v name) rs of) (All-tail HasText (symbol v name) rs texts),
    )

-- each block has no fault, whatever its number, after the records of the blocks before it
abbrev pub EachSymbols : Known → List Entry → List Contents → Type 0
EachSymbols known earlier [] = Unit {0}
EachSymbols known earlier (b ∷ bs) = ((number : ℕ) → All IsFree (sites (symbols_table known earlier) number b)) × EachSymbols known (earlier ++ entries_in b) bs

pub symbols_free : (known : Known) (n : ℕ) (earlier : List Entry) (blocks : List Contents) (records : List (List SymbolRecord)) → length known.functions ≡ n →
    map entries_in blocks ≡ map (map symbol_entry) records → flat_map block_ids blocks ≡ [] →
    Unnamed earlier (flat_map (λ block. block) records) → NamesOnce (flat_map (λ block. block) records) →
    All (IsOf n) (flat_map (λ block. block) records) → All HasText (flat_map (λ block. block) records) → EachSymbols known earlier blocks
symbols_free known n earlier [] records long spelled none un once of texts = tt
symbols_free known n earlier (b ∷ bs) [] long spelled none un once of texts = absurd (omega (arith, ap length spelled))
symbols_free known n earlier (b ∷ bs) (r ∷ rs) long spelled none un once of texts =
    let same = parts_same (entries_in b) (map symbol_entry r) (map entries_in bs) (map (map symbol_entry) rs) spelled in
    let apart = both_none (block_ids b) (flat_map block_ids bs) none in
    let rest = flat_map (λ block. block) rs in
    let after = unnamed_after earlier r rest un once in
    let own : FreeRecords (λ x e y. symbol_kinds n (earlier ++ x) e) [] (map symbol_entry r)
    = all_free n earlier [] r (subst (λ es. Unnamed es r) (sym (more_none earlier)) (unnamed_left earlier r rest un)) (once_left r rest once)
    (all_left (IsOf n) r rest of) (all_left HasText r rest texts) in (
      (λ number. free_flat (symbols_table known earlier) number b apart.0
          (subst (λ k. FreeRecords (λ x e y. symbol_kinds k (earlier ++ x) e) [] (entries_in b)) (sym long)
          (subst (FreeRecords (λ x e y. symbol_kinds n (earlier ++ x) e) []) (sym same.0) own)) refl),
      symbols_free known n (earlier ++ entries_in b) bs rs long same.1 apart.1
          (subst (λ es. Unnamed (earlier ++ es) rest) (sym same.0) after.0) after.1 (all_right (IsOf n) r rest of) (all_right HasText r rest texts),
    )

none_unnamed : (rs : List SymbolRecord) → Unnamed [] rs
none_unnamed [] = tt
none_unnamed (symbol v name ∷ rs) = (refl, none_unnamed rs)

-- the names of values are their records'

no_name : (v : ℕ) (rs : List SymbolRecord) → All (IsOther v) rs → name_of rs v ≡ []
no_name v [] others = refl
no_name v (symbol w name ∷ rs) others =
    ap (λ b. if b then name else name_of rs v) (differ w v (All-head (IsOther v) (symbol w name) rs others))
    ∙ no_name v rs (All-tail (IsOther v) (symbol w name) rs others)

no_text : IsText []
no_text = All-nil (λ c. c < 256)

texts_from : (n : ℕ) (rs : List SymbolRecord) → NamesOnce rs → All (IsOf n) rs → ((v : ℕ) → v < n → IsText (name_of rs v)) → All HasText rs
texts_from n [] once of named = All-nil HasText
texts_from n (symbol v name ∷ rs) once of named =
    All-cons HasText (symbol v name) rs
    (subst IsText (ap (λ b. if b then name else name_of rs v) (equal v v refl)) (named v (All-head (IsOf n) (symbol v name) rs of)))
    (texts_from n rs once.1 (All-tail (IsOf n) (symbol v name) rs of) (λ w less. later w less (eqb_tells v w)))
  where
    later : (w : ℕ) → w < n → (((v == w) ≡ true) × (v ≡ w)) ⊎ (((v == w) ≡ false) × (v ≢ w)) → IsText (name_of rs w)
    later w less (inl h) = subst (λ x. IsText (name_of rs x)) h.1 (subst IsText (sym (no_name v rs once.0)) no_text)
    later w less (inr h) = subst IsText (ap (λ b. if b then name else name_of rs w) h.0) (named w less)

named_at : (first : ℕ) (rs : List SymbolRecord) (names : List (List ℕ)) (i : ℕ) → NamedFrom first rs names → i < length names → name_of rs (first + i) ≡ get_or names i []
named_at first rs [] i named within = absurd (omega (arith, within))
named_at first rs (name ∷ names) zero named within = ap (name_of rs) (omega arith) ∙ named.0
named_at first rs (name ∷ names) (suc i) named within = ap (name_of rs) (omega arith) ∙ named_at (suc first) rs names i named.1 (omega (arith, within))

texts_at : (n : ℕ) (rs : List SymbolRecord) (names : List (List ℕ)) → length names ≡ n → NamedFrom 0 rs names → All IsText names → (v : ℕ) → v < n → IsText (name_of rs v)
texts_at n rs names long named texts v less =
    subst IsText (sym (ap (name_of rs) (omega arith) ∙ named_at 0 rs names v named (omega (arith, less, long)))) (texts v [] (omega (arith, less, long)))

pub symbols_all_free : (known : Known) (n : ℕ) (blocks : List Contents) (names : List (List ℕ)) → SymbolsRecorded n blocks names → length known.functions ≡ n → length names ≡ n →
    All IsText names → EachSymbols known [] blocks
symbols_all_free known n blocks names r long count texts =
    let all = flat_map (λ block. block) r.records in
    symbols_free known n [] blocks r.records long r.spelled r.no_blocks (none_unnamed all) r.once r.of_values
    (texts_from n all r.once r.of_values (texts_at n all names count r.names_are texts))

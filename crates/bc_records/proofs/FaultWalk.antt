-- A walk over the parts of a block: the first fault of the whole is the first of what is left.
use Rattle.std.proofs.Common.{◌≡◌, ℕ, suc, ◌+◌, ◌<◌, ◌≤◌, Bool, true, false, Result, Ok, Err, ◌||◌, ◌==◌, Option, None, Some, List, [], ◌∷◌, ◌++◌, take, drop, length, get_or, refl, ap, sym, ◌∙◌, subst, arith, zero-add}
use Rattle.std.specs.Result.{IsErrAnd}
use Rattle.std.proofs.lemmas.List.{drop_more, drop_all, take_all, take-append-drop}
use Rattle.bc_stream.specs.Blocks.{Contents, no_more, a_record, a_block, append, before_part, parts_contents}
use Rattle.bc_stream.specs.declared.block.Entry as held
use Rattle.bc_stream.specs.declared.block.Part.{Part}
use Rattle.bc_stream.specs.declared.block.Part.TheVariants.{Block, Entry}
use Rattle.bc_stream.specs.declared.block.BlockTree.{BlockTree}
use Rattle.bc_stream.proofs.BlockLemmas.{block_more, entry_more, parts_contents-none, parts_contents-first, before_part-Block, before_part-Entry, before_part-append, before_block-is}
use Rattle.bc_records.specs.Entries.{Entry as EntryForm, entry, entries_in, block_count}
use Rattle.bc_records.specs.RecordKinds.{code_of, has_code, last_has_code}
use Rattle.bc_records.specs.FaultSites.{Site, Table, sites_after}
use Rattle.bc_records.specs.FaultSearch.{first_kind, fault_at, or_else, first_fault, IsStop, Tells}
use Rattle.bc_records.specs.declared.faults.fault.Stop.{Stop}
use Rattle.bc_records.specs.declared.faults.fault.Stop.TheVariants.{Found, Memory}
use Rattle.bc_records.specs.declared.faults.fault.Fault.{Fault}
use Rattle.bc_records.proofs.FreeSites.{entries-append, more_none}
use Rattle.bc_records.proofs.Steps.{drop-zero}

-- what is left at a place, and what came before it
abbrev pub left : List Part → ℕ → Contents
left parts i = parts_contents (drop i parts)

abbrev pub past : List Part → ℕ → Contents
past parts i = parts_contents (take i parts)

pub left-part : (parts : List Part) (i : ℕ) (part : Part) → i < length parts → part ≡ get_or parts i part →
    left parts i ≡ before_part part (left parts (i + 1))
left-part parts i part within is =
    ap parts_contents (drop_more parts i part within)
    ∙ (ap (λ p. parts_contents (p ∷ drop (i + 1) parts)) (sym is) ∙ parts_contents-first part (drop (i + 1) parts))

pub left-entry : (parts : List Part) (i : ℕ) (part : Part) (e : held.Entry) → i < length parts → part ≡ get_or parts i part → part ≡ Entry e →
    left parts i ≡ a_record e.code e.values (left parts (i + 1))
left-entry parts i part e within is form =
    left-part parts i part within is ∙ (ap (λ p. before_part p (left parts (i + 1))) form ∙ before_part-Entry e (left parts (i + 1)))

pub left-block : (parts : List Part) (i : ℕ) (part : Part) (b : BlockTree) → i < length parts → part ≡ get_or parts i part → part ≡ Block b →
    left parts i ≡ a_block b.id (parts_contents b.parts) (left parts (i + 1))
left-block parts i part b within is form =
    left-part parts i part within is
    ∙ (ap (λ p. before_part p (left parts (i + 1))) form ∙ (before_part-Block b (left parts (i + 1)) ∙ before_block-is b (left parts (i + 1))))

pub left-none : (parts : List Part) (i : ℕ) → length parts ≤ i → left parts i ≡ no_more
left-none parts i all = ap parts_contents (drop_all i parts all) ∙ parts_contents-none

pub left-all : (parts : List Part) → left parts 0 ≡ parts_contents parts
left-all parts = ap parts_contents (drop-zero parts)

pub past-none : (parts : List Part) → past parts 0 ≡ no_more
past-none parts = parts_contents-none

-- counts of what is put together
pub length-append-one : {A : Type 0} (xs : List A) (x : A) → length (xs ++ x ∷ []) ≡ suc (length xs)
length-append-one [] x = refl
length-append-one (y ∷ xs) x = ap suc (length-append-one xs x)

pub count-append : (a b : Contents) → block_count (append a b) ≡ block_count a + block_count b
count-append no_more b = sym (zero-add (block_count b))
count-append (a_record code values a) b = count-append a b
count-append (a_block id inner a) b = omega (arith, count-append a b)

-- first faults of places put together
pub or_else-or_else : (a b c : Option Fault) → or_else (or_else a b) c ≡ or_else a (or_else b c)
or_else-or_else None b c = refl
or_else-or_else (Some f) b c = refl

pub or_else-some : (a b : Option Fault) (f : Fault) → a ≡ Some f → or_else a b ≡ Some f
or_else-some a b f is = ap (λ x. or_else x b) is

pub or_else-none : (a b : Option Fault) → a ≡ None → or_else a b ≡ b
or_else-none a b is = ap (λ x. or_else x b) is

pub first_fault-append : (xs ys : List Site) → first_fault (xs ++ ys) ≡ or_else (first_fault xs) (first_fault ys)
first_fault-append [] ys = refl
first_fault-append (s ∷ xs) ys =
    ap (or_else (fault_at s.block s.at (first_kind s.kinds))) (first_fault-append xs ys)
    ∙ sym (or_else-or_else (fault_at s.block s.at (first_kind s.kinds)) (first_fault xs) (first_fault ys))

-- the fault of a record, of the head of a block, of the places in it, and of the end
abbrev pub record_fault : Table → (block at : ℕ) → List EntryForm → EntryForm → List EntryForm → Option Fault
record_fault table block at before e after = fault_at block at (first_kind (table.records before e after))

abbrev pub head_fault : Table → (number : ℕ) → Contents → (id : ℕ) → Option Fault
head_fault table number before id = fault_at number 0 (first_kind (table.heads before id))

abbrev pub whole_fault : Table → (block first : ℕ) → Contents → Option Fault
whole_fault table block first inner = first_fault (sites_after table block first no_more inner)

abbrev pub rest_fault : Table → (block first : ℕ) → (before rest : Contents) → Option Fault
rest_fault table block first before rest = first_fault (sites_after table block first before rest)

-- A walk has come to the part i, after so many records and so many blocks, nested ones counted.
pub record Walked (table : Table) (block first : ℕ) (parts : List Part) (i at blocks : ℕ) : Type 0 where
  pub same : whole_fault table block first (parts_contents parts) ≡ rest_fault table block first (past parts i) (left parts i)
  pub records : length (entries_in (past parts i)) ≡ at
  pub counted : block_count (past parts i) ≡ blocks

pub walked-start : (table : Table) (block first : ℕ) (parts : List Part) → Walked table block first parts 0 0 0
walked-start table block first parts = record {
  same = ap (whole_fault table block first) (sym (left-all parts))
      ∙ ap (λ c. rest_fault table block first c (left parts 0)) (sym (past-none parts));
  records = ap (λ c. length (entries_in c)) (past-none parts);
  counted = ap block_count (past-none parts);
}

-- a record
module _ (table : Table) (block first : ℕ) (parts : List Part) (i at blocks : ℕ) (part : Part) (e : held.Entry)
    (within : i < length parts) (is : part ≡ get_or parts i part) (form : part ≡ Entry e) (w : Walked table block first parts i at blocks) where
  pub at-record : whole_fault table block first (parts_contents parts)
      ≡ or_else (record_fault table block at (entries_in (past parts i)) (entry e.code e.values) (entries_in (left parts (i + 1))))
      (rest_fault table block first (past parts (i + 1)) (left parts (i + 1)))
  at-record =
      w.same
      ∙ (ap (rest_fault table block first (past parts i)) (left-entry parts i part e within is form)
      ∙ (ap (λ n. or_else (record_fault table block n (entries_in (past parts i)) (entry e.code e.values) (entries_in (left parts (i + 1))))
      (rest_fault table block first (append (past parts i) (a_record e.code e.values no_more)) (left parts (i + 1)))) w.records
      ∙ ap (λ c. or_else (record_fault table block at (entries_in (past parts i)) (entry e.code e.values) (entries_in (left parts (i + 1))))
      (rest_fault table block first c (left parts (i + 1)))) (sym (entry_more parts i part e within is form))))

  pub past-record : entries_in (past parts (i + 1)) ≡ entries_in (past parts i) ++ entry e.code e.values ∷ []
  past-record =
      ap entries_in (entry_more parts i part e within is form) ∙ entries-append (past parts i) (a_record e.code e.values no_more)

  pub walked-record :
      record_fault table block at (entries_in (past parts i)) (entry e.code e.values) (entries_in (left parts (i + 1))) ≡ None →
      Walked table block first parts (i + 1) (suc at) blocks
  walked-record free = record {
    same = at-record ∙ or_else-none _ _ free;
    records = ap length past-record ∙ (length-append-one (entries_in (past parts i)) (entry e.code e.values) ∙ ap suc w.records);
    counted = ap block_count (entry_more parts i part e within is form)
        ∙ (count-append (past parts i) (a_record e.code e.values no_more) ∙ omega (arith, w.counted));
  }

  pub found-record : (f : Fault) →
      record_fault table block at (entries_in (past parts i)) (entry e.code e.values) (entries_in (left parts (i + 1))) ≡ Some f →
      whole_fault table block first (parts_contents parts) ≡ Some f
  found-record f is_fault = at-record ∙ or_else-some _ _ f is_fault

-- a block
abbrev pub inside_fault : Table → (number : ℕ) → (before : Contents) → BlockTree → Option Fault
inside_fault table number before b = first_fault (table.inside before b.id number (parts_contents b.parts))

module _ (table : Table) (block first : ℕ) (parts : List Part) (i at blocks : ℕ) (part : Part) (b : BlockTree)
    (within : i < length parts) (is : part ≡ get_or parts i part) (form : part ≡ Block b) (w : Walked table block first parts i at blocks) where
  pub past-block : past parts (i + 1) ≡ append (past parts i) (a_block b.id (parts_contents b.parts) no_more)
  past-block = block_more parts i part b within is form

  pub at-block : whole_fault table block first (parts_contents parts)
      ≡ or_else (head_fault table (first + blocks) (past parts i) b.id)
      (or_else (inside_fault table (first + blocks) (past parts i) b) (rest_fault table block first (past parts (i + 1)) (left parts (i + 1))))
  at-block =
      w.same
      ∙ (ap (rest_fault table block first (past parts i)) (left-block parts i part b within is form)
      ∙ (ap (λ n. or_else (head_fault table (first + n) (past parts i) b.id)
      (first_fault (table.inside (past parts i) b.id (first + n) (parts_contents b.parts)
      ++ sites_after table block first (append (past parts i) (a_block b.id (parts_contents b.parts) no_more)) (left parts (i + 1))))) w.counted
      ∙ ap (or_else (head_fault table (first + blocks) (past parts i) b.id))
      (first_fault-append (table.inside (past parts i) b.id (first + blocks) (parts_contents b.parts))
      (sites_after table block first (append (past parts i) (a_block b.id (parts_contents b.parts) no_more)) (left parts (i + 1)))
      ∙ ap (λ c. or_else (inside_fault table (first + blocks) (past parts i) b) (rest_fault table block first c (left parts (i + 1)))) (sym past-block))))

  pub past-block-entries : entries_in (past parts (i + 1)) ≡ entries_in (past parts i)
  past-block-entries =
      ap entries_in past-block
      ∙ (entries-append (past parts i) (a_block b.id (parts_contents b.parts) no_more) ∙ more_none (entries_in (past parts i)))

  pub walked-block : or_else (head_fault table (first + blocks) (past parts i) b.id) (inside_fault table (first + blocks) (past parts i) b) ≡ None →
      Walked table block first parts (i + 1) at (blocks + suc (block_count (parts_contents b.parts)))
  walked-block free = record {
    same = at-block
        ∙ (sym (or_else-or_else (head_fault table (first + blocks) (past parts i) b.id) (inside_fault table (first + blocks) (past parts i) b)
        (rest_fault table block first (past parts (i + 1)) (left parts (i + 1))))
        ∙ or_else-none _ _ free);
    records = ap length past-block-entries ∙ w.records;
    counted = ap block_count past-block
        ∙ (count-append (past parts i) (a_block b.id (parts_contents b.parts) no_more) ∙ omega (arith, w.counted));
  }

  pub found-head : (f : Fault) → head_fault table (first + blocks) (past parts i) b.id ≡ Some f →
      whole_fault table block first (parts_contents parts) ≡ Some f
  found-head f is_fault = at-block ∙ or_else-some _ _ f is_fault

  pub found-block : (f : Fault) → or_else (head_fault table (first + blocks) (past parts i) b.id) (inside_fault table (first + blocks) (past parts i) b) ≡ Some f →
      whole_fault table block first (parts_contents parts) ≡ Some f
  found-block f is_fault =
      at-block
      ∙ (sym (or_else-or_else (head_fault table (first + blocks) (past parts i) b.id) (inside_fault table (first + blocks) (past parts i) b)
      (rest_fault table block first (past parts (i + 1)) (left parts (i + 1))))
      ∙ or_else-some _ _ f is_fault)

-- the parts put together
pub contents-append : (xs ys : List Part) → parts_contents (xs ++ ys) ≡ append (parts_contents xs) (parts_contents ys)
contents-append [] ys = ap (λ c. append c (parts_contents ys)) (sym parts_contents-none)
contents-append (x ∷ xs) ys =
    parts_contents-first x (xs ++ ys)
    ∙ (ap (before_part x) (contents-append xs ys)
    ∙ (before_part-append x (parts_contents xs) (parts_contents ys) ∙ ap (λ c. append c (parts_contents ys)) (sym (parts_contents-first x xs))))

pub count-left : (parts : List Part) (i : ℕ) → block_count (parts_contents parts) ≡ block_count (past parts i) + block_count (left parts i)
count-left parts i =
    ap (λ ps. block_count (parts_contents ps)) (sym (take-append-drop i parts))
    ∙ (ap block_count (contents-append (take i parts) (drop i parts)) ∙ count-append (past parts i) (left parts i))

-- a block is among the blocks that there are
pub block-room : (parts : List Part) (i blocks : ℕ) (part : Part) (b : BlockTree) → i < length parts → part ≡ get_or parts i part → part ≡ Block b →
    block_count (past parts i) ≡ blocks → blocks + suc (block_count (parts_contents b.parts)) ≤ block_count (parts_contents parts)
block-room parts i blocks part b within is form counted =
    omega (arith, count-left parts i, ap block_count (left-block parts i part b within is form), counted)

-- a block among the parts is one
pub room-first : (parts : List Part) (i : ℕ) (part : Part) (b : BlockTree) → i < length parts → part ≡ get_or parts i part → part ≡ Block b →
    1 ≤ block_count (parts_contents parts)
room-first parts i part b within is form =
    omega (arith, block-room parts i (block_count (past parts i)) part b within is form refl)

-- the records that have come, with one more
pub past-entries : (parts : List Part) (i : ℕ) (part : Part) (e : held.Entry) → i < length parts → part ≡ get_or parts i part → part ≡ Entry e →
    entries_in (past parts (i + 1)) ≡ entries_in (past parts i) ++ entry e.code e.values ∷ []
past-entries parts i part e within is form =
    ap entries_in (entry_more parts i part e within is form) ∙ entries-append (past parts i) (a_record e.code e.values no_more)

-- facts of the records that have come, with one more
pub has-code-append : (code : ℕ) (before : List EntryForm) (e : EntryForm) → has_code code (before ++ e ∷ []) ≡ (has_code code before || (code_of e == code))
has-code-append code [] e = or_false (code_of e == code) where
  or_false : (b : Bool) → (b || false) ≡ b
  or_false true = refl
  or_false false = refl
has-code-append code (x ∷ before) e =
    ap (λ b. (code_of x == code) || b) (has-code-append code before e) ∙ sym (or_assoc (code_of x == code) (has_code code before) (code_of e == code)) where
      or_assoc : (a b c : Bool) → ((a || b) || c) ≡ (a || (b || c))
      or_assoc true b c = refl
      or_assoc false b c = refl

pub last-code-append : (code : ℕ) (before : List EntryForm) (e : EntryForm) → last_has_code code (before ++ e ∷ []) ≡ (code_of e == code)
last-code-append code [] e = refl
last-code-append code (x ∷ []) e = refl
last-code-append code (x ∷ y ∷ before) e = last-code-append code (y ∷ before) e

-- the end
pub at-end : (table : Table) (block first : ℕ) (parts : List Part) (i at blocks : ℕ) → length parts ≤ i → Walked table block first parts i at blocks →
    whole_fault table block first (parts_contents parts) ≡ fault_at block at (first_kind (table.ends (parts_contents parts)))
at-end table block first parts i at blocks all w =
    w.same
    ∙ (ap (rest_fault table block first (past parts i)) (left-none parts i all)
    ∙ (or_else-last (fault_at block (length (entries_in (past parts i))) (first_kind (table.ends (past parts i))))
    ∙ (ap (λ n. fault_at block n (first_kind (table.ends (past parts i)))) w.records
    ∙ ap (λ c. fault_at block at (first_kind (table.ends (parts_contents c)))) (take_all i parts all)))) where
      or_else-last : (a : Option Fault) → or_else a None ≡ a
      or_else-last None = refl
      or_else-last (Some f) = refl

-- what a part tells, of the whole
pub stop-same : (stop : Stop) (part whole : Option Fault) → ((f : Fault) → part ≡ Some f → whole ≡ Some f) → IsStop stop part → IsStop stop whole
stop-same (Found f) part whole same told = same f told
stop-same Memory part whole same told = tt

pub told-same : (result : Result (Unit {0}) Stop) (part whole : Option Fault) → whole ≡ part → Tells result part → Tells result whole
told-same result part whole same told = subst (Tells result) (sym same) told

-- the exit of a `?`
pub told-exit : (result : Result (Unit {0}) Stop) (stop : Stop) (part whole : Option Fault) → IsErrAnd result (λ given. given ≡ stop) →
    ((f : Fault) → part ≡ Some f → whole ≡ Some f) → IsStop stop part → Tells result whole
told-exit (Err given) stop part whole is same told = subst (λ s. IsStop s whole) (sym is) (stop-same stop part whole same told)
told-exit (Ok done) stop part whole is same told = absurd is

-- kinds at a place, told apart
pub fault-first : (block at : ℕ) (first second : Option ℕ) → first ≡ second → fault_at block at first ≡ fault_at block at second
fault-first block at first second same = ap (fault_at block at) same

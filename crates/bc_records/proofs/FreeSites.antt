-- Blocks in which no place has a kind of fault.
use Rattle.std.proofs.Common.{◌≡◌, ℕ, suc, ◌+◌, List, [], ◌∷◌, ◌++◌, length, refl, ap, sym, ◌∙◌, subst, arith}
use Rattle.std.specs.Prelude.{All}
use Rattle.std.proofs.lemmas.List.Elements.{All-nil, All-cons, All-append}
use Rattle.bc_stream.specs.Blocks.{Contents, no_more, a_record, a_block, append}
use Rattle.bc_stream.proofs.BlockLemmas.{append-none, append-append}
use Rattle.bc_records.specs.Entries.{Entry, entry, entries_in, block_ids, block_count}
use Rattle.bc_records.specs.FaultSites.{site, Table, IsFree, sites_after, sites}

-- no record has a kind, with the records before and after it
abbrev pub FreeRecords : ((before : List Entry) → Entry → (after : List Entry) → List ℕ) → List Entry → List Entry → Type 0
FreeRecords kinds before [] = Unit {0}
FreeRecords kinds before (e ∷ es) = (kinds before e es ≡ []) × FreeRecords kinds (before ++ e ∷ []) es

-- no block has a kind at its head, nor has any place in it
abbrev pub FreeBlocks : Table → (first : ℕ) → (before rest : Contents) → Type 0
FreeBlocks table first before no_more = Unit {0}
FreeBlocks table first before (a_record code values rest) = FreeBlocks table first (append before (a_record code values no_more)) rest
FreeBlocks table first before (a_block id inner rest) =
    (table.heads before id ≡ [])
    × (All IsFree (table.inside before id (first + block_count before) inner))
    × FreeBlocks table first (append before (a_block id inner no_more)) rest

pub entries-append : (a b : Contents) → entries_in (append a b) ≡ entries_in a ++ entries_in b
entries-append no_more b = refl
entries-append (a_record code values a) b = ap (λ es. entry code values ∷ es) (entries-append a b)
entries-append (a_block id inner a) b = entries-append a b

pub more_none : {A : Type 0} (xs : List A) → xs ++ [] ≡ xs
more_none [] = refl
more_none (x ∷ xs) = ap (λ ys. x ∷ ys) (more_none xs)

pub free : (table : Table) (block first : ℕ) (before rest : Contents) →
    FreeRecords table.records (entries_in before) (entries_in rest) → FreeBlocks table first before rest → table.ends (append before rest) ≡ [] →
    All IsFree (sites_after table block first before rest)
free table block first before no_more records blocks ends =
    All-cons IsFree (site block (length (entries_in before)) (table.ends before)) [] (subst (λ c. table.ends c ≡ []) (append-none before) ends) (All-nil IsFree)
free table block first before (a_record code values rest) records blocks ends =
    let one : Contents = a_record code values no_more in
    All-cons IsFree (site block (length (entries_in before)) (table.records (entries_in before) (entry code values) (entries_in rest)))
    (sites_after table block first (append before one) rest) records.0
    (free table block first (append before one) rest
    (subst (λ es. FreeRecords table.records es (entries_in rest)) (sym (entries-append before one)) records.1)
    blocks
    (subst (λ c. table.ends c ≡ []) (sym (append-append before one rest)) ends))
free table block first before (a_block id inner rest) records blocks ends =
    let one : Contents = a_block id inner no_more in
    let number : ℕ = first + block_count before in
    All-cons IsFree (site number 0 (table.heads before id)) (table.inside before id number inner ++ sites_after table block first (append before one) rest) blocks.0
    (All-append IsFree (table.inside before id number inner) (sites_after table block first (append before one) rest) blocks.1
    (free table block first (append before one) rest
    (subst (λ es. FreeRecords table.records es (entries_in rest)) (sym (entries-append before one ∙ more_none (entries_in before))) records)
    blocks.2
    (subst (λ c. table.ends c ≡ []) (sym (append-append before one rest)) ends)))

-- a block without blocks in it
pub no_blocks : (table : Table) (first : ℕ) (before rest : Contents) → block_ids rest ≡ [] → FreeBlocks table first before rest
no_blocks table first before no_more none = tt
no_blocks table first before (a_record code values rest) none = no_blocks table first (append before (a_record code values no_more)) rest none
no_blocks table first before (a_block id inner rest) none = absurd (omega (arith, ap length none))

pub free_flat : (table : Table) (block : ℕ) (inner : Contents) → block_ids inner ≡ [] → FreeRecords table.records [] (entries_in inner) → table.ends inner ≡ [] →
    All IsFree (sites table block inner)
free_flat table block inner none records ends = free table block (suc block) no_more inner records (no_blocks table (suc block) no_more inner none) ends

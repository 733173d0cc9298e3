-- What blocks hold in which no place has a kind of fault.
use Rattle.std.proofs.Common.{◌≡◌, ℕ, suc, ◌+◌, List, [], ◌∷◌, ◌++◌, length, refl, ap, sym, ◌∙◌, subst, arith}
use Rattle.std.specs.Prelude.{Bool, true, false, if◌then◌else◌, ◌||◌, ◌==◌, All}
use Rattle.std.proofs.lemmas.List.Elements.{All-head, All-tail}
use Rattle.bc_stream.specs.Blocks.{Contents, no_more, a_record, a_block, append}
use Rattle.bc_stream.proofs.BlockLemmas.{append-none, append-append}
use Rattle.bc_records.specs.Entries.{Entry, entry, entries_in, block_ids, block_count}
use Rattle.bc_records.specs.FaultSites.{Site, site, Table, IsFree, sites_after, sites}
use Rattle.bc_records.specs.RecordFaults.{misplaced, flat_table}
use Rattle.bc_records.proofs.FreeSites.{FreeRecords, FreeBlocks, entries-append, more_none}
use Rattle.bc_records.proofs.Tests.{all_left, all_right}

pub held : (table : Table) (block first : ℕ) (before rest : Contents) → All IsFree (sites_after table block first before rest) →
    FreeRecords table.records (entries_in before) (entries_in rest) × FreeBlocks table first before rest × (table.ends (append before rest) ≡ [])
held table block first before no_more all =
    (tt, tt, subst (λ c. table.ends c ≡ []) (sym (append-none before)) (All-head IsFree (site block (length (entries_in before)) (table.ends before)) [] all))
held table block first before (a_record code values rest) all =
    let one : Contents = a_record code values no_more in
    let own : Site = site block (length (entries_in before)) (table.records (entries_in before) (entry code values) (entries_in rest)) in
    let others : List Site = sites_after table block first (append before one) rest in
    let more = held table block first (append before one) rest (All-tail IsFree own others all) in (
      (All-head IsFree own others all, subst (λ es. FreeRecords table.records es (entries_in rest)) (entries-append before one) more.0),
      more.1,
      subst (λ c. table.ends c ≡ []) (append-append before one rest) more.2,
    )
held table block first before (a_block id inner rest) all =
    let one : Contents = a_block id inner no_more in
    let number : ℕ = first + block_count before in
    let own : Site = site number 0 (table.heads before id) in
    let inside : List Site = table.inside before id number inner in
    let others : List Site = sites_after table block first (append before one) rest in
    let both : All IsFree (inside ++ others) = All-tail IsFree own (inside ++ others) all in
    let more = held table block first (append before one) rest (all_right IsFree inside others both) in (
      subst (λ es. FreeRecords table.records es (entries_in rest)) (entries-append before one ∙ more_none (entries_in before)) more.0,
      (All-head IsFree own (inside ++ others) all, all_left IsFree inside others both, more.1),
      subst (λ c. table.ends c ≡ []) (append-append before one rest) more.2,
    )

-- a block that can't stand where it does has a kind
pub has_place : (id : ℕ) → misplaced id ≡ [] → ⊥
has_place id none =
    by ((id == 8) || ((id == 11) || ((id == 12) || ((id == 14) || ((id == 15) || (id == 17)))))) none
  where
    by : (b : Bool) → if◌then◌else◌ {A = List ℕ} b (6 ∷ []) (8 ∷ []) ≡ [] → ⊥
    by true none = absurd (omega (arith, ap length none))
    by false none = absurd (omega (arith, ap length none))

-- a block that can hold no blocks
pub holds_none : (kinds : (before : List Entry) → Entry → (after : List Entry) → List ℕ) (ends : Contents → List ℕ) (first : ℕ) (before rest : Contents) →
    FreeBlocks (flat_table kinds ends) first before rest → block_ids rest ≡ []
holds_none kinds ends first before no_more blocks = refl
holds_none kinds ends first before (a_record code values rest) blocks = holds_none kinds ends first (append before (a_record code values no_more)) rest blocks
holds_none kinds ends first before (a_block id inner rest) blocks = absurd (has_place id blocks.0)

-- what a block holds that can hold no blocks
pub held_flat : (kinds : (before : List Entry) → Entry → (after : List Entry) → List ℕ) (ends : Contents → List ℕ) (block : ℕ) (inner : Contents) →
    All IsFree (sites (flat_table kinds ends) block inner) → FreeRecords kinds [] (entries_in inner) × (block_ids inner ≡ []) × (ends inner ≡ [])
held_flat kinds ends block inner all =
    let h = held (flat_table kinds ends) block (suc block) no_more inner all in
    (h.0, holds_none kinds ends (suc block) no_more inner h.1, h.2)

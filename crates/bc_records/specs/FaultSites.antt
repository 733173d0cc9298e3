-- Where the fault of a block list stands, and of which kind it is, given the kinds of each record.
use Rattle.std.specs.Prelude.{◌≡◌, ℕ, suc, ◌+◌, ◌≤◌, List, [], ◌∷◌, ◌++◌, length, All, Contains}
use Rattle.bc_stream.specs.Blocks.{Contents, no_more, a_record, a_block, append}
use Rattle.bc_records.specs.Entries.{Entry, entry, entries_in, block_count}

-- A place of a list and the kinds of faults there. The block is numbered among all blocks in the order in which
-- they begin, and the record among those of its block. The head of a block counts as its record 0, before that
-- record itself, and its end as the record that comes next.
pub record Site : Type 0 where
  pub block : ℕ
  pub at : ℕ
  pub kinds : List ℕ

abbrev pub site : (block at : ℕ) → List ℕ → Site
site block at kinds = record { block = block; at = at; kinds = kinds }

-- What may stand in a block: the kinds of a record, with the records before and after it in its block; the kinds of
-- the head of a block, by its id and what stands before it; the kinds of the end, after what the block holds; and
-- the places in an inner block, by its number.
pub record Table : Type 0 where
  pub records : (before : List Entry) → Entry → (after : List Entry) → List ℕ
  pub heads : (before : Contents) → (id : ℕ) → List ℕ
  pub ends : Contents → List ℕ
  pub inside : (before : Contents) → (id number : ℕ) → Contents → List Site

-- the places in a block, in the order of the stream, where the first block in it has the number `first`
abbrev pub sites_after : Table → (block first : ℕ) → (before : Contents) → Contents → List Site
sites_after table block first before no_more = site block (length (entries_in before)) (table.ends before) ∷ []
sites_after table block first before (a_record code values rest) =
    site block (length (entries_in before)) (table.records (entries_in before) (entry code values) (entries_in rest))
    ∷ sites_after table block first (append before (a_record code values no_more)) rest
sites_after table block first before (a_block id inner rest) =
    site (first + block_count before) 0 (table.heads before id)
    ∷ (table.inside before id (first + block_count before) inner ++ sites_after table block first (append before (a_block id inner no_more)) rest)

abbrev pub sites : Table → (block : ℕ) → Contents → List Site
sites table block inner = sites_after table block (suc block) no_more inner

abbrev pub IsFree : Site → Type 0
IsFree s = s.kinds ≡ []

-- The fault of places: it stands at the first of them that has a kind, and has the least kind there.
pub record IsFirst (places : List Site) (kind block at : ℕ) : Type 0 where
  pub before : List Site
  pub kinds : List ℕ
  pub after : List Site
  pub order : places ≡ before ++ site block at kinds ∷ after
  pub first : All IsFree before
  pub has : Contains kinds kind
  pub least : All (λ other. kind ≤ other) kinds

-- What stands in a block that begins with records.
use Rattle.std.proofs.Common.{◌≡◌, ℕ, List, [], ◌∷◌, ◌++◌, refl, ap}
use Rattle.bc_stream.specs.Blocks.{Contents, no_more}
use Rattle.bc_records.specs.Entries.{Entry, entry, entries_in, block_ids, blocks_in}
use Rattle.bc_records.specs.Written.{listed}

pub entries_in-listed : (entries : List Entry) (rest : Contents) → entries_in (listed entries rest) ≡ entries ++ entries_in rest
entries_in-listed [] rest = refl
entries_in-listed (entry code operands ∷ entries) rest = ap (λ rs. entry code operands ∷ rs) (entries_in-listed entries rest)

pub block_ids-listed : (entries : List Entry) (rest : Contents) → block_ids (listed entries rest) ≡ block_ids rest
block_ids-listed [] rest = refl
block_ids-listed (entry code operands ∷ entries) rest = block_ids-listed entries rest

pub blocks_in-listed : (id : ℕ) (entries : List Entry) (rest : Contents) → blocks_in id (listed entries rest) ≡ blocks_in id rest
blocks_in-listed id [] rest = refl
blocks_in-listed id (entry code operands ∷ entries) rest = blocks_in-listed id entries rest

-- records alone
pub entries_in-alone : (entries : List Entry) → entries_in (listed entries no_more) ≡ entries
entries_in-alone [] = refl
entries_in-alone (entry code operands ∷ entries) = ap (λ rs. entry code operands ∷ rs) (entries_in-alone entries)

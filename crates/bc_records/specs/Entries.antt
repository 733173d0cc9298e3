-- Records and blocks as they stand in a block, before they are read.
use Rattle.std.specs.Prelude.{ℕ, ◌==◌, ◌<◌, ◌^◌, if◌then◌else◌, List, [], ◌∷◌, All}
use Rattle.bc_stream.specs.Blocks.{Contents, no_more, a_record, a_block}
pub use Rattle.bc_stream.specs.Blocks.{block_count}

-- a record: its code and its operands
pub data Entry : Type 0 where
  entry : (code : ℕ) (operands : List ℕ) → Entry

-- the records of a block in order, whatever blocks stand between them
abbrev pub entries_in : Contents → List Entry
entries_in no_more = []
entries_in (a_record code values rest) = entry code values ∷ entries_in rest
entries_in (a_block id inner rest) = entries_in rest

-- the ids of the blocks in a block, in order
abbrev pub block_ids : Contents → List ℕ
block_ids no_more = []
block_ids (a_record code values rest) = block_ids rest
block_ids (a_block id inner rest) = id ∷ block_ids rest

-- what the blocks of one id hold, in order
abbrev pub blocks_in : ℕ → Contents → List Contents
blocks_in wanted no_more = []
blocks_in wanted (a_record code values rest) = blocks_in wanted rest
blocks_in wanted (a_block id inner rest) = if id == wanted then inner ∷ blocks_in wanted rest else blocks_in wanted rest

-- a number of 32 bits
abbrev pub IsWord : ℕ → Type 0
IsWord n = n < 2 ^ 32

-- characters, which are bytes
abbrev pub IsText : List ℕ → Type 0
IsText chars = All (λ c. c < 256) chars

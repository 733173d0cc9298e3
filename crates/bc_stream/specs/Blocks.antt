-- Blocks and records as plain data, apart from how they are held and how they are spelled.
use Rattle.std.specs.Prelude.{◌≢◌, ℕ, suc, ◌+◌, max, List, [], ◌∷◌, map}
use Rattle.bc_stream.specs.declared.block.Part.{Part, Part-F, fold-Part}
use Rattle.bc_stream.specs.declared.block.BlockTree.{BlockTree, BlockTree-F, fold-BlockTree}

-- What stands in a block, or outside all blocks, in order: records, and blocks with what stands in them.
pub data Contents : Type 0 where
  no_more : Contents
  a_record : (code : ℕ) (values : List ℕ) (rest : Contents) → Contents
  a_block : (id : ℕ) (inner : Contents) (rest : Contents) → Contents

-- the one, and then the other
abbrev pub append : Contents → Contents → Contents
append no_more after = after
append (a_record code values rest) after = a_record code values (append rest after)
append (a_block id inner rest) after = a_block id inner (append rest after)

-- how many blocks stand in one another at most
abbrev pub levels : Contents → ℕ
levels no_more = 0
levels (a_record code values rest) = levels rest
levels (a_block id inner rest) = max (suc (levels inner)) (levels rest)

-- how many blocks there are, nested ones counted
abbrev pub block_count : Contents → ℕ
block_count no_more = 0
block_count (a_record code values rest) = block_count rest
block_count (a_block id inner rest) = suc (block_count inner + block_count rest)

-- No block has the id 0, which is that of the block of abbreviations.
abbrev pub HasNoBlockZero : Contents → Type 0
HasNoBlockZero no_more = Unit {0}
HasNoBlockZero (a_record code values rest) = HasNoBlockZero rest
HasNoBlockZero (a_block id inner rest) = (id ≢ 0) × HasNoBlockZero inner × HasNoBlockZero rest

-- What each part puts before the rest, one after another.
abbrev pub in_order : List (Contents → Contents) → Contents
in_order [] = no_more
in_order (before ∷ befores) = before (in_order befores)

-- one part of a block, with what each block in it puts before the rest
abbrev pub part_step : Part-F (Contents → Contents) (Contents → Contents) → Contents → Contents
part_step (Part-F.Block block) rest = block rest
part_step (Part-F.Entry entry) rest = a_record entry.code entry.values rest

-- one block, with what each of its parts puts before the rest
abbrev pub block_step : BlockTree-F (Contents → Contents) (Contents → Contents) → Contents → Contents
block_step block rest = a_block block.id (in_order block.parts) rest

-- a part, and then the rest
unfoldable pub before_part : Part → Contents → Contents
before_part = fold-Part (Contents → Contents) (Contents → Contents) part_step block_step

-- a block, and then the rest
unfoldable pub before_block : BlockTree → Contents → Contents
before_block = fold-BlockTree (Contents → Contents) (Contents → Contents) part_step block_step

-- what stands in a block
unfoldable pub parts_contents : List Part → Contents
parts_contents parts = in_order (map before_part parts)

-- what stands outside all blocks: the outermost blocks
unfoldable pub contents_of : List BlockTree → Contents
contents_of blocks = in_order (map before_block blocks)

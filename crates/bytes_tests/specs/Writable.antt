-- What the writer of blocks takes.
use Rattle.std.specs.Prelude.{ℕ, ◌≤◌}
use Rattle.bc_stream.specs.Blocks.{Contents, HasNoBlockZero, levels}

-- at most so many levels of blocks, and no block with the id 0
pub record IsWritable (most : ℕ) (contents : Contents) : Type 0 where
  pub no_block_zero : HasNoBlockZero contents
  pub nesting : levels contents ≤ most

use Rattle.std.proofs.Common.{◌≡◌, drop}
use Rattle.bc_stream.specs.Blocks.{contents_of}
use Rattle.bc_records.specs.Codes.{module_block}
use Rattle.bc_records.specs.Entries.{blocks_in}
use Rattle.bc_records.proofs.read.module.module_parts.Given as goal

abbrev pub invariant-loop-block : goal.invariant-loop-block
invariant-loop-block l =
    blocks_in module_block (contents_of (drop l.block-index l.block-items)) ≡ blocks_in module_block (contents_of l.block-items)

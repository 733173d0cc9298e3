use Rattle.std.proofs.Common.{◌+◌, ◌∙◌, ap, sym, drop}
use Rattle.bc_stream.specs.Blocks.{contents_of, parts_contents}
use Rattle.bc_records.specs.Codes.{module_block}
use Rattle.bc_records.specs.Entries.{blocks_in}
use Rattle.bc_records.specs.Read.{inner_of}
use Rattle.bc_records.proofs.ReadSteps.{contents_next, contents_end, block_found, block_passed}
use Rattle.bc_records.proofs.read.module.module_parts.Goals as goal

pub returns-then-block-eq-MODULE_BLOCK : goal.returns-then-block-eq-MODULE_BLOCK
returns-then-block-eq-MODULE_BLOCK c =
    let blocks = c.as_slice-block-items.result.now in
    let i = c.loop-block.block-index in
    let b = c.block-item.result in
    ap (λ bs. inner_of (blocks_in module_block (contents_of bs))) (sym c.as_slice-block-items.ensures)
    ∙ ap inner_of (sym c.loop-block.invariant
    ∙ (ap (blocks_in module_block) (contents_next blocks i b c.loop-block-test.true c.block-item.is)
    ∙ block_found module_block b.id (parts_contents b.parts) (contents_of (drop (i + 1) blocks)) c.if-block-eq-MODULE_BLOCK.true))

pub loop-block-preserved : goal.loop-block-preserved
loop-block-preserved c =
    let blocks = c.as_slice-block-items.result.now in
    let i = c.loop-block.block-index in
    let b = c.block-item.result in
    sym (block_passed module_block b.id (parts_contents b.parts) (contents_of (drop (i + 1) blocks)) c.if-block-eq-MODULE_BLOCK.false)
    ∙ (sym (ap (blocks_in module_block) (contents_next blocks i b c.loop-block-test.true c.block-item.is)) ∙ c.loop-block.invariant)

pub returns : goal.returns
returns c =
    let blocks = c.as_slice-block-items.result.now in
    ap (λ bs. inner_of (blocks_in module_block (contents_of bs))) (sym c.as_slice-block-items.ensures)
    ∙ ap inner_of (sym c.loop-block.invariant ∙ ap (blocks_in module_block) (contents_end blocks c.loop-block.block-index c.loop-block-test.false))

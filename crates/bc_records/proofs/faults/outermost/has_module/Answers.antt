use Rattle.std.proofs.Common.{◌∙◌, ◌+◌, ◌∷◌, suc, ap, sym, arith, length}
use Rattle.std.specs.Prelude.{if◌then◌else◌, nat_lt}
use Rattle.std.proofs.lemmas.Bool.{eq-eqb, ne_eqb, lt-ltb}
use Rattle.bc_stream.specs.Blocks.{parts_contents}
use Rattle.bc_records.specs.Entries.{blocks_in}
use Rattle.bc_records.proofs.FaultOuter.{outer_left, outer-left, outer-none}
use Rattle.bc_records.proofs.faults.outermost.has_module.Goals as goal

pub returns-then-block-eq-MODULE_BLOCK : goal.returns-then-block-eq-MODULE_BLOCK
returns-then-block-eq-MODULE_BLOCK c =
    let blocks = c.args.blocks.now in
    let i = c.loop-block.block-index in
    let b = c.block-item.result in
    sym (ap (λ bs. nat_lt 0 (length bs)) (c.loop-block.invariant
    ∙ (ap (blocks_in 8) (outer-left blocks i b c.loop-block-test.true c.block-item.is)
    ∙ ap (λ t. if t then parts_contents b.parts ∷ blocks_in 8 (outer_left blocks (i + 1)) else blocks_in 8 (outer_left blocks (i + 1))) (eq-eqb b.id 8 c.if-block-eq-MODULE_BLOCK.true)))
    ∙ lt-ltb 0 (suc (length (blocks_in 8 (outer_left blocks (i + 1))))) (omega arith))

pub loop-block-preserved : goal.loop-block-preserved
loop-block-preserved c =
    let blocks = c.args.blocks.now in
    let i = c.loop-block.block-index in
    let b = c.block-item.result in
    c.loop-block.invariant
    ∙ (ap (blocks_in 8) (outer-left blocks i b c.loop-block-test.true c.block-item.is)
    ∙ ap (λ t. if t then parts_contents b.parts ∷ blocks_in 8 (outer_left blocks (i + 1)) else blocks_in 8 (outer_left blocks (i + 1))) (ne_eqb b.id 8 c.if-block-eq-MODULE_BLOCK.false))

pub returns : goal.returns
returns c =
    sym (ap (λ bs. nat_lt 0 (length bs)) (c.loop-block.invariant ∙ ap (blocks_in 8) (outer-none c.args.blocks.now c.loop-block.block-index c.loop-block-test.false)))

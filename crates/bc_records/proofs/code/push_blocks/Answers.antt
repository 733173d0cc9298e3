use Rattle.std.proofs.Common.{◌∙◌, ap, arith}
use Rattle.std.specs.Prelude.{flat_map}
use Rattle.bc_stream.specs.Blocks.{append, parts_contents}
use Rattle.bc_records.specs.Ranges.{BlockInRange}
use Rattle.bc_records.proofs.Steps.{range_step, range_stop}
use Rattle.bc_records.proofs.CodeSteps.{left, block_step, block_stop}
use Rattle.bc_records.proofs.code.push_blocks.Goals as goal

pub loop-block-preserved : goal.loop-block-preserved
loop-block-preserved c = record {
  so_far = block_step c.args.module.now c.as_slice-all.result.now c.loop-block.block-index c.block-item.result c.loop-block.next c.in_ok-next.next
      (parts_contents c.loop-block.parts) (parts_contents c.push_insts.new.parts)
      (append (parts_contents c.args.parts.now) (left c.args.module.now c.args.first (flat_map (λ k. k.insts) c.as_slice-all.result.now)))
      c.loop-block-test.true c.block-item.is c.in_ok-next.ensures.after c.in_ok-next.ensures.ok c.loop-block.invariant.so_far;
  limit = omega (arith, c.in_ok-next.ensures.limit, c.loop-block.invariant.limit);
  range = range_step BlockInRange c.as_slice-all.result.now c.loop-block.block-index c.block-item.result
      c.loop-block-test.true c.block-item.is c.in_ok-next.ensures.range c.loop-block.invariant.range;
}

pub returns-clause-ok : goal.returns-clause-ok
returns-clause-ok c =
    block_stop c.args.module.now c.as_slice-all.result.now c.loop-block.block-index c.loop-block.next (parts_contents c.loop-block.parts)
    (append (parts_contents c.args.parts.now) (left c.args.module.now c.args.first (flat_map (λ k. k.insts) c.as_slice-all.result.now)))
    c.loop-block-test.false c.loop-block.invariant.so_far
    ∙ ap (λ blocks. append (parts_contents c.args.parts.now) (left c.args.module.now c.args.first (flat_map (λ k. k.insts) blocks))) c.as_slice-all.ensures.value

pub returns-clause-range : goal.returns-clause-range
returns-clause-range c =
    range_stop BlockInRange c.as_slice-all.result.now c.args.blocks.now c.loop-block.block-index c.loop-block-test.false
    c.as_slice-all.ensures.value c.loop-block.invariant.range

use Rattle.bc_stream.specs.Blocks.{parts_contents}
use Rattle.bytes_tests.proofs.Appended.{with_block}
use Rattle.bytes_tests.proofs.blocks.module_list.Goals as goal

pub loop-id-preserved : goal.loop-id-preserved
loop-id-preserved c =
    with_block 0 (parts_contents c.loop-id.parts) (parts_contents c.push_block.new.parts) _ _ c.in_ok-push_block.ensures.ok c.if-id-eq0.false c.in_ok-records.ensures c.loop-id.invariant

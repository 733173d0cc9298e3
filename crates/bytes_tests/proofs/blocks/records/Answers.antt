use Rattle.bc_stream.specs.Blocks.{parts_contents}
use Rattle.bytes_tests.proofs.Appended.{with_record}
use Rattle.bytes_tests.proofs.blocks.records.Goals as goal

pub loop-code-preserved : goal.loop-code-preserved
loop-code-preserved c =
    with_record 0 (parts_contents c.loop-code.parts) (parts_contents c.push_entry.new.parts) _ _ c.in_ok-push_entry.ensures.ok c.loop-code.invariant

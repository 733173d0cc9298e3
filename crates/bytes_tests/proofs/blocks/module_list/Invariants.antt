use Rattle.bc_stream.specs.Blocks.{parts_contents}
use Rattle.bytes_tests.specs.Writable.{IsWritable}
use Rattle.bytes_tests.proofs.blocks.module_list.Given as goal

abbrev pub invariant-loop-id : goal.invariant-loop-id
invariant-loop-id l = IsWritable 1 (parts_contents l.parts)

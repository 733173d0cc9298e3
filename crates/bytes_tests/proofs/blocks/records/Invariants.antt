use Rattle.bc_stream.specs.Blocks.{parts_contents}
use Rattle.bytes_tests.specs.Writable.{IsWritable}
use Rattle.bytes_tests.proofs.blocks.records.Given as goal

abbrev pub invariant-loop-code : goal.invariant-loop-code
invariant-loop-code l = IsWritable 0 (parts_contents l.parts)

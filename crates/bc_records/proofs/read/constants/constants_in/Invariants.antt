use Rattle.std.proofs.Common.{◌≡◌, ◌++◌}
use Rattle.bc_stream.specs.Blocks.{parts_contents}
use Rattle.bc_records.specs.Read.{read_constants}
use Rattle.bc_records.proofs.ReadSteps.{from}
use Rattle.bc_records.proofs.read.constants.constants_in.Given as goal

abbrev pub invariant-loop-part : goal.invariant-loop-part
invariant-loop-part l = l.constants ++ read_constants (from l.part-items l.part-index) ≡ read_constants (parts_contents l.part-items)

use Rattle.std.proofs.Common.{◌≡◌}
use Rattle.bc_stream.specs.Blocks.{parts_contents}
use Rattle.bc_records.specs.Entries.{entries_in}
use Rattle.bc_records.specs.RecordKinds.{first_operand}
use Rattle.bc_records.proofs.FaultWalk.{left}
use Rattle.bc_records.proofs.faults.numbers.declared.Given as goal

abbrev pub invariant-loop-part : goal.invariant-loop-part
invariant-loop-part l = first_operand 1 (entries_in (parts_contents l.parts)) ≡ first_operand 1 (entries_in (left l.parts l.part-index))

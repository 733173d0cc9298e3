use Rattle.std.proofs.Common.{◌≡◌}
use Rattle.bc_stream.specs.Blocks.{parts_contents}
use Rattle.bc_records.specs.Entries.{entries_in}
use Rattle.bc_records.proofs.FaultWalk.{left}
use Rattle.bc_records.proofs.faults.flat.begins_with.Given as goal

abbrev pub invariant-loop-part : goal.invariant-loop-part
invariant-loop-part l = entries_in (parts_contents l.parts) ≡ entries_in (left l.parts l.part-index)

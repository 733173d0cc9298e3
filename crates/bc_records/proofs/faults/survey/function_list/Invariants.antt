use Rattle.std.proofs.Common.{◌≡◌, map}
use Rattle.bc_records.specs.Entries.{entries_in}
use Rattle.bc_records.specs.HeldEntries.{operands_form}
use Rattle.bc_records.specs.RecordKinds.{function_entries}
use Rattle.bc_records.proofs.FaultWalk.{past}
use Rattle.bc_records.proofs.faults.survey.function_list.Given as goal

abbrev pub invariant-loop-part : goal.invariant-loop-part
invariant-loop-part l = map operands_form l.functions.items ≡ function_entries (entries_in (past l.parts l.part-index))

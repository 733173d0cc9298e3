use Rattle.std.proofs.Common.{◌≡◌, map, take}
use Rattle.bc_records.specs.HeldEntries.{operands_form}
use Rattle.bc_records.specs.RecordKinds.{with_bodies}
use Rattle.bc_records.proofs.faults.survey.body_list.Given as goal

abbrev pub invariant-loop-operands : goal.invariant-loop-operands
invariant-loop-operands l = map operands_form l.bodies.items ≡ with_bodies (map operands_form (take l.operands-index l.functions))

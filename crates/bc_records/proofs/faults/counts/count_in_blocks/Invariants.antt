use Rattle.std.proofs.Common.{◌≡◌}
use Rattle.bc_records.specs.Entries.{blocks_in}
use Rattle.bc_records.specs.RecordKinds.{all_of}
use Rattle.bc_records.specs.FaultCounts.{codes_from}
use Rattle.bc_records.proofs.FaultWalk.{past}
use Rattle.bc_records.proofs.faults.counts.count_in_blocks.Given as goal

abbrev pub invariant-loop-part : goal.invariant-loop-part
invariant-loop-part l = l.count ≡ codes_from l.first (all_of (blocks_in l.id (past l.parts l.part-index)))

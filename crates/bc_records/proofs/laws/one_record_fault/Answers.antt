use Rattle.bc_records.proofs.OneRecordFault.{one_record_fault}
use Rattle.bc_records.proofs.laws.one_record_fault.Goals as goal

pub returns : goal.returns
returns c = one_record_fault

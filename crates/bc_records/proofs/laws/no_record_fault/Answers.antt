use Rattle.bc_records.proofs.NoRecordFault.{no_record_fault}
use Rattle.bc_records.proofs.laws.no_record_fault.Goals as goal

pub returns : goal.returns
returns c = no_record_fault

use Rattle.std.proofs.Common.{subst}
use Rattle.std.specs.Prelude.{All}
use Rattle.bc_stream.specs.Blocks.{contents_of}
use Rattle.bc_records.specs.FaultSites.{IsFree}
use Rattle.bc_records.specs.RecordFaults.{IsFault, record_sites}
use Rattle.bc_records.proofs.FaultOrder.{no_fault, the_fault}
use Rattle.bc_records.proofs.faults.record_fault.Goals as goal

pub returns-in-Ok : goal.returns-in-Ok
returns-in-Ok c =
    subst (λ blocks. All IsFree (record_sites (contents_of blocks))) c.as_slice.ensures
    (no_fault (contents_of c.as_slice.result.now) c.in-Ok.ensures)

pub returns-in-Err-Found : goal.returns-in-Err-Found
returns-in-Err-Found c =
    let fault = c.in-Err-Found.fault in
    subst (λ blocks. IsFault (contents_of blocks) fault.kind fault.block fault.at) c.as_slice.ensures
    (the_fault (contents_of c.as_slice.result.now) fault (rw c.in-Err-Found.field-0-is at c.in-Err-Found.ensures))

use Rattle.dx_container.proofs.Contents.{no_first_fault}
use Rattle.dx_container.proofs.laws.contained_has_no_fault.Goals as goal

pub returns : goal.returns
returns c = no_first_fault

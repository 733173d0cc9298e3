use Rattle.dx_container.proofs.Contents.{one_fault}
use Rattle.dx_container.proofs.laws.at_most_one_fault.Goals as goal

pub returns : goal.returns
returns c = one_fault

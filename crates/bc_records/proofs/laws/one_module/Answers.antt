use Rattle.bc_records.proofs.OneModule.{one_module}
use Rattle.bc_records.proofs.laws.one_module.Goals as goal

pub returns : goal.returns
returns c = one_module

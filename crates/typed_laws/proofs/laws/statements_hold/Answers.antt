use Rattle.typed_laws.proofs.Programs as programs
use Rattle.typed_laws.proofs.laws.statements_hold.Goals as goal

pub returns : goal.returns
returns c = programs.statements_hold

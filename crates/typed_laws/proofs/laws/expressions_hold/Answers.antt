use Rattle.typed_laws.proofs.Programs as programs
use Rattle.typed_laws.proofs.laws.expressions_hold.Goals as goal

pub returns : goal.returns
returns c = programs.expressions_hold

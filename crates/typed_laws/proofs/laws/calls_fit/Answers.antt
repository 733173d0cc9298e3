use Rattle.typed_laws.proofs.Programs as programs
use Rattle.typed_laws.proofs.laws.calls_fit.Goals as goal

pub returns : goal.returns
returns c = programs.calls_fit

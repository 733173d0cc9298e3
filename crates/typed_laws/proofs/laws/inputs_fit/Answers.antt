use Rattle.typed_laws.proofs.Programs as programs
use Rattle.typed_laws.proofs.laws.inputs_fit.Goals as goal

pub returns : goal.returns
returns c = programs.inputs_fit

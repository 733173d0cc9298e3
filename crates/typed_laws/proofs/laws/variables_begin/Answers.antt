use Rattle.typed_laws.proofs.Programs as programs
use Rattle.typed_laws.proofs.laws.variables_begin.Goals as goal

pub returns : goal.returns
returns c = programs.variables_begin

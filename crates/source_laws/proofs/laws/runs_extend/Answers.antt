use Rattle.source_laws.proofs.Programs as programs
use Rattle.source_laws.proofs.laws.runs_extend.Goals as goal

pub returns : goal.returns
returns c = programs.runs_extend

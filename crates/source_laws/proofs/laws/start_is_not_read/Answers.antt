use Rattle.source_laws.proofs.Programs as programs
use Rattle.source_laws.proofs.laws.start_is_not_read.Goals as goal

pub returns : goal.returns
returns c = programs.start_is_not_read

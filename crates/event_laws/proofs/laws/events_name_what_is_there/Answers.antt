use Rattle.event_laws.proofs.Programs as programs
use Rattle.event_laws.proofs.laws.events_name_what_is_there.Goals as goal

pub returns : goal.returns
returns c = programs.events_name_what_is_there

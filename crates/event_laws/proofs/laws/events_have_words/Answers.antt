use Rattle.event_laws.proofs.Programs as programs
use Rattle.event_laws.proofs.laws.events_have_words.Goals as goal

pub returns : goal.returns
returns c = programs.events_have_words

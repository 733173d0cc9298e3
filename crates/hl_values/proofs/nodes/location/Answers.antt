use Rattle.hl_meaning.proofs.Plain.{plain_location-is}
use Rattle.hl_values.proofs.nodes.location.Goals as goal

pub returns : goal.returns
returns c = plain_location-is _

use Rattle.dx_container.proofs.Fields.{form_contained}
use Rattle.dx_container.proofs.laws.written_is_contained.Goals as goal

pub returns : goal.returns
returns c = form_contained

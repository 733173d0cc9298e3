use Rattle.dx_container.proofs.Contents.{at_most_one}
use Rattle.dx_container.proofs.laws.at_most_one_content.Goals as goal

pub returns : goal.returns
returns c = at_most_one

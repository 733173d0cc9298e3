use Rattle.hl_parser.proofs.Complete.{at_most_one_tree}
use Rattle.hl_parser.proofs.laws.at_most_one_tree.Goals as goal

pub returns : goal.returns
returns c = at_most_one_tree

use Rattle.hl_meaning.proofs.Plain.{plain_expr-is}
use Rattle.hl_values.proofs.nodes.node.Goals as goal

pub returns : goal.returns
returns c = plain_expr-is _

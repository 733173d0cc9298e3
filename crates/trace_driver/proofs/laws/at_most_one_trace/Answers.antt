use Rattle.trace_driver.proofs.OneTrace.{one_trace}
use Rattle.trace_driver.proofs.laws.at_most_one_trace.Goals as goal

pub returns : goal.returns
returns c = one_trace c.at_most_one_token_list.ensures c.at_most_one_tree.ensures c.at_most_one_program.ensures

use Rattle.trace_driver.proofs.Asked.{same_request}
use Rattle.trace_driver.proofs.laws.at_most_one_request.Goals as goal

pub returns : goal.returns
returns c = same_request

use Rattle.dxil_driver.proofs.TreeFaults.{place_there, place_end}
use Rattle.dxil_driver.proofs.compiler.place_of.Goals as goal

pub returns-in-Some : goal.returns-in-Some
returns-in-Some c = place_there c.args.tokens.now.list c.args.tokens.now.end c.args.at c.in-Some.token.now c.in-Some.ensures.value

pub returns-in-None : goal.returns-in-None
returns-in-None c = place_end c.args.tokens.now.list c.args.tokens.now.end c.args.at c.in-None.ensures.value

use Rattle.hl_types.proofs.MadeForms.{block_made}
use Rattle.hl_types.proofs.made.block_of.Goals as goal

pub returns : goal.returns
returns c = block_made c.args.body c.in-Some.body c.in_ok-one.field-0 c.in-Some.is c.in_ok-one.ensures

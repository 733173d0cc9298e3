use Rattle.hl_types.proofs.MadeForms.{run_made}
use Rattle.hl_types.proofs.made.run_of.Goals as goal

pub returns : goal.returns
returns c = run_made c.args.value c.in-Some.value c.in_ok-one.field-0 c.in-Some.is c.in_ok-one.ensures

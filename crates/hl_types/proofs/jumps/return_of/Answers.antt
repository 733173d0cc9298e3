use Rattle.hl_types.proofs.TypedForms.{return_stmt-made}
use Rattle.hl_types.proofs.jumps.return_of.Goals as goal

pub returns : goal.returns
returns c = return_stmt-made c.args.value c.in-Some.value c.in_ok-one.field-0 c.in-Some.is c.in_ok-one.ensures

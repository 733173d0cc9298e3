use Rattle.hl_types.proofs.LocalNotes.{local-made}
use Rattle.hl_types.proofs.locals.local_of.Goals as goal

pub returns : goal.returns
returns c = local-made c.args.value c.in-Some.init c.args.variable c.in_ok-one.field-0 c.in-Some.is c.in_ok-one.ensures

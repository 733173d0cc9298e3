use Rattle.std.proofs.Common.{◌∙◌, ap}
use Rattle.hl_meaning.specs.Views.{plain_stmt}
use Rattle.hl_types.proofs.MadeForms.{while_made}
use Rattle.hl_types.proofs.made.while_of.Goals as goal

pub returns : goal.returns
returns c =
    while_made c.args.cond c.args.body c.in-Some.cond c.in-Some-body.body c.in_ok-body.body c.in_ok-one.field-0 c.in-Some.is c.in-Some-body.is
    (ap plain_stmt (c.in_ok-body.ensures) ∙ c.single.ensures) c.in_ok-one.ensures

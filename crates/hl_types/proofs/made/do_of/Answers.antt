use Rattle.std.proofs.Common.{◌∙◌, ap}
use Rattle.hl_meaning.specs.Views.{plain_stmt}
use Rattle.hl_types.proofs.MadeForms.{do_made}
use Rattle.hl_types.proofs.made.do_of.Goals as goal

pub returns : goal.returns
returns c =
    do_made c.args.body c.args.cond c.in-Some.body c.in-Some-cond.cond c.in_ok-body.body c.in_ok-one.field-0 c.in-Some.is c.in-Some-cond.is
    (ap plain_stmt (c.in_ok-body.ensures) ∙ c.single.ensures) c.in_ok-one.ensures

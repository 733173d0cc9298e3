use Rattle.std.proofs.Common.{◌∙◌, ap}
use Rattle.hl_meaning.specs.Views.{plain_stmt}
use Rattle.hl_types.proofs.MadeForms.{if_made}
use Rattle.hl_types.proofs.made.if_of.Goals as goal

pub returns : goal.returns
returns c =
    if_made c.args.cond c.args.«yes» c.args.«no» c.in-Some.cond c.in-Some-yes.«yes» c.in-Some-no.«no» c.in_ok-yes.«yes» c.in_ok-one.field-0 c.in-Some.is c.in-Some-yes.is c.in-Some-no.is
    (ap plain_stmt (c.in_ok-yes.ensures) ∙ c.single.ensures) c.in_ok-one.ensures

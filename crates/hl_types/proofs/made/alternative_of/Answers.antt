use Rattle.std.proofs.Common.{◌∙◌, ap}
use Rattle.hl_meaning.specs.Views.{plain_stmt}
use Rattle.hl_types.proofs.MadeForms.{alternative_made}
use Rattle.hl_types.proofs.made.alternative_of.Goals as goal

pub returns : goal.returns
returns c = alternative_made c.args.made c.in-Some.made c.in_ok-new.field-0 c.in-Some.is (ap plain_stmt c.in_ok-new.ensures ∙ c.single.ensures)

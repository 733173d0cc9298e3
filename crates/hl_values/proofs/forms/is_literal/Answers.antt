use Rattle.std.proofs.Common.{◌∙◌, sym, ap}
use Rattle.hl_values.proofs.StepLemmas.{literal-no, literal-yes}
use Rattle.hl_values.proofs.forms.is_literal.Goals as goal

pub returns-in-Literal : goal.returns-in-Literal
returns-in-Literal c = sym (literal-yes c.args.value.now _ c.in-Literal.is)

pub returns-in_default : goal.returns-in_default
returns-in_default c = sym (literal-no c.args.value.now c.in_default.not-Literal)

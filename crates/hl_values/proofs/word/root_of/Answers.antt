use Rattle.std.proofs.Common.{◌∙◌, sym, ap}
use Rattle.hl_meaning.proofs.Plain.{plain_root-Constant, plain_root-Shared, plain_root-Variable}
use Rattle.hl_values.specs.ScopeViews.{plain_root}
use Rattle.hl_values.proofs.word.root_of.Goals as goal

pub returns-in-Variable : goal.returns-in-Variable
returns-in-Variable c = plain_root-Variable _ ∙ ap plain_root (sym c.in-Variable.is)

pub returns-in-Shared : goal.returns-in-Shared
returns-in-Shared c = plain_root-Shared _ ∙ ap plain_root (sym c.in-Shared.is)

pub returns-in-Constant : goal.returns-in-Constant
returns-in-Constant c = plain_root-Constant _ ∙ ap plain_root (sym c.in-Constant.is)

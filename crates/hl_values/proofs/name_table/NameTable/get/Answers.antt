use Rattle.std.proofs.Common.{◌∙◌, sym, ap}
use Rattle.std.specs.Option.{option_copied}
use Rattle.hl_values.proofs.NameLemmas.{first_named-none, first_named-some}
use Rattle.hl_values.proofs.name_table.NameTable.get.Goals as goal

pub returns-in_err-at : goal.returns-in_err-at
returns-in_err-at g c = ap option_copied c.from_residual.ensures ∙ sym (first_named-none c.args.name.now c.args.self.now c.in_err-at.ensures)

pub returns : goal.returns
returns g c = c.value_at.ensures ∙ sym (first_named-some c.args.name.now c.args.self.now c.in_ok-at.at c.in_ok-at.ensures)

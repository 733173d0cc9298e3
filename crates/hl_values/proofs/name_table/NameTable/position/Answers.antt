use Rattle.std.proofs.Common.{◌∙◌, ap, slice_get}
use Rattle.hl_values.proofs.NameLemmas.{first_position}
use Rattle.hl_values.proofs.name_table.NameTable.position.Goals as goal

pub returns : goal.returns
returns g c =
    c.copied.ensures ∙ (c.first.ensures.value ∙ (ap (λ l. slice_get l 0) c.positions.ensures ∙ first_position c.args.name.now c.args.self.now))

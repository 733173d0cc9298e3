use Rattle.std.proofs.Common.{◌∙◌, sym}
use Rattle.hl_types.proofs.MadeForms.{single_block, single_one}
use Rattle.hl_types.proofs.made.single.Goals as goal

pub returns-then-len-eq1 : goal.returns-then-len-eq1
returns-then-len-eq1 c = single_one c.args.made c.remove.result (sym c.len.ensures ∙ c.if-len-eq1.true) c.remove.ensures.item

pub returns-else-len-eq1 : goal.returns-else-len-eq1
returns-else-len-eq1 c = single_block c.args.made (λ e. c.if-len-eq1.false (c.len.ensures ∙ e))

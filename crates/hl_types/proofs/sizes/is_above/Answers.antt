use Rattle.std.proofs.Common.{◌∙◌, sym, arith}
use Rattle.hl_types.proofs.SizeLemmas.{few-above, many-above}
use Rattle.hl_types.proofs.sizes.is_above.Goals as goal

pub returns-in-Few : goal.returns-in-Few
returns-in-Few c = λ known e. few-above c.args.most c.in-Few.count known (sym c.in-Few.is ∙ e)

pub returns-in-Many : goal.returns-in-Many
returns-in-Many c = λ known e. many-above c.args.most known (omega arith) (sym c.in-Many.is ∙ e)

use Rattle.std.proofs.Common.{◌∙◌, sym}
use Rattle.hl_types.proofs.SizeLemmas.{above-known, above-none}
use Rattle.hl_types.proofs.sizes.is_more.Goals as goal

pub returns-in-Some : goal.returns-in-Some
returns-in-Some c = λ known e. above-known c.args.most c.in-Some.words c.is_above.result known c.is_above.ensures (sym c.in-Some.is ∙ e)

pub returns-in-None : goal.returns-in-None
returns-in-None c = λ known e. above-none c.args.most known (sym c.in-None.is ∙ e)

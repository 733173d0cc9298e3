use Rattle.std.proofs.Common.{◌∙◌, sym}
use Rattle.hl_types.proofs.KindLemmas.{other-known, other-none}
use Rattle.hl_types.proofs.kinds.is_other.Goals as goal

pub returns-in-Some : goal.returns-in-Some
returns-in-Some c = λ known e. other-known c.args.count c.in-Some.words c.is_count.result known c.is_count.ensures (sym c.in-Some.is ∙ e)

pub returns-in-None : goal.returns-in-None
returns-in-None c = λ known e. other-none c.args.count known (sym c.in-None.is ∙ e)

use Rattle.hl_inline.proofs.Keeping.{inlined_keeps}
use Rattle.hl_inline.proofs.laws.inlined_keeps.Goals as goal

pub returns : goal.returns
returns c = inlined_keeps

use Rattle.std.proofs.Common.{sym}
use Rattle.hl_types.proofs.SignatureLemmas.{lengths-differ}
use Rattle.hl_types.proofs.signatures.have_same_types.Goals as goal

pub returns-then-params-others : goal.returns-then-params-others
returns-then-params-others c = sym (lengths-differ c.args.params.now c.args.others.now c.if-params-others.true)

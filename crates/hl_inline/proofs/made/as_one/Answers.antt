use Rattle.std.proofs.Common.{◌∙◌}
use Rattle.hl_inline.proofs.OneStatement.{one-block}
use Rattle.hl_inline.proofs.made.as_one.Goals as goal

pub returns-then-len-ne1 : goal.returns-then-len-ne1
returns-then-len-ne1 c = one-block c.args.stmts (λ single. c.if-len-ne1.true (c.len.ensures ∙ single))

use Rattle.std.proofs.Common.{◌∙◌, ap, ◌++◌}
use Rattle.hl_inline.proofs.LastCallLemmas.{held-path}
use Rattle.hl_inline.proofs.searching.path_to_call.Goals as goal

pub returns : goal.returns
returns c = c.in_ok-find_call.ensures.0 ∙ ap (λ l. l ++ held-path c.args.expr.now) c.new-numbers.ensures

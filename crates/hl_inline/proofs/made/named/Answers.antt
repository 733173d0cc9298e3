use Rattle.std.proofs.Common.{◌∙◌, ap}
use Rattle.hl_inline.specs.FlatTrees.{flat_named}
use Rattle.hl_inline.specs.FlatViews.{plain_flat_stmt}
use Rattle.hl_inline.proofs.FlatPlain.{plain_flat_stmt-Named}
use Rattle.hl_inline.proofs.made.named.Goals as goal

pub returns : goal.returns
returns c = plain_flat_stmt-Named c.args.name c.in_ok-body.body ∙ ap (flat_named c.args.name) (ap plain_flat_stmt c.in_ok-body.ensures ∙ c.as_one.ensures)

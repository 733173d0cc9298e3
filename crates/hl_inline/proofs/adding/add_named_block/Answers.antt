use Rattle.std.proofs.Common.{◌∙◌, ap}
use Rattle.hl_inline.specs.FlatTrees.{flat_named}
use Rattle.hl_inline.specs.FlatViews.{plain_flat_stmt}
use Rattle.hl_inline.proofs.FlatPlain.{plain_flat_stmt-Block, plain_flat_stmt-Named}
use Rattle.hl_inline.proofs.EmittedParts.{added}
use Rattle.hl_inline.proofs.adding.add_named_block.Goals as goal

pub returns : goal.returns
returns c =
    added c.add.result c.args.code.now c.add.new.code _ _
    (plain_flat_stmt-Named c.args.name c.in_ok-body.body ∙ ap (flat_named c.args.name) (ap plain_flat_stmt c.in_ok-body.ensures ∙ plain_flat_stmt-Block c.args.inner)) c.add.ensures

use Rattle.hl_inline.proofs.FlatPlain.{plain_flat_stmt-Block}
use Rattle.hl_inline.proofs.EmittedParts.{added}
use Rattle.hl_inline.proofs.adding.add_block.Goals as goal

pub returns : goal.returns
returns c =
    added c.add.result c.args.code.now c.add.new.code _ _ (plain_flat_stmt-Block c.args.inner) c.add.ensures

use Rattle.std.proofs.Common.{Some}
use Rattle.hl_inline.proofs.FlatPlain.{plain_flat_stmt-Local}
use Rattle.hl_inline.proofs.EmittedParts.{added}
use Rattle.hl_inline.proofs.adding.add_set.Goals as goal

pub returns : goal.returns
returns c =
    added c.add.result c.args.code.now c.add.new.code _ _ (plain_flat_stmt-Local c.args.variable (Some c.args.value)) c.add.ensures

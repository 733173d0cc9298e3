use Rattle.hl_inline.specs.Building.{plain_code, plain_fresh}
use Rattle.hl_inline.specs.FlatViews.{plain_flat_stmt}
use Rattle.hl_inline.proofs.FlatPlain.{plain_flat_stmt-Local}
use Rattle.hl_inline.proofs.Gathering.{mapped-more}
use Rattle.hl_inline.proofs.Settled.{saved-as}
use Rattle.hl_inline.proofs.settling.save.Goals as goal

pub returns : goal.returns
returns c =
    saved-as (plain_code c.args.code.now) _ c.args.value _ (plain_fresh c.args.fresh.now) _ c.next-number.result c.next-number.ensures c.in_ok-read.ensures c.in_ok-add_unnamed.ensures
    (mapped-more plain_flat_stmt c.args.code.now _ _ _ c.in_ok-push.ensures.ok (plain_flat_stmt-Local _ _))

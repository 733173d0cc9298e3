use Rattle.dxil_driver.proofs.Pushes.{pushes_two}
use Rattle.dxil_driver.proofs.emit.body.push_declared.Goals as goal

pub returns : goal.returns
returns c =
    pushes_two _ _ _ _ _ _ _ c.in_ok-push.ensures.ok c.in_ok-push-2.ensures.ok c.in_ok-declaration.ensures c.in_ok-declaration-2.ensures

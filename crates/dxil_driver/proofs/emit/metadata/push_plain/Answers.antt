use Rattle.dxil_driver.proofs.Pushes.{extends_three}
use Rattle.dxil_driver.proofs.emit.metadata.push_plain.Goals as goal

pub returns : goal.returns
returns c =
    extends_three _ _ _ _ _ _ _ c.in_ok-push_version.ensures c.in_ok-push_function.ensures c.in_ok-push_properties.ensures

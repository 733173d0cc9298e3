-- A broken rule is the reason why the bytes are refused.
use Rattle.dxil_driver.specs.Check.{of_verdict, IsRefused, Passes}
use Rattle.dxil_driver.proofs.Failing.{exit, verdict_refused}
use Rattle.dxil_driver.proofs.checker.judge.Goals as goal

pub returns-in_err-checked : goal.returns-in_err-checked
returns-in_err-checked c =
    let bytes = c.args.bytes.now in
    let invalid = c.in_err-checked.field-0.0 in
    exit (Passes bytes) (IsRefused bytes) c.from_residual-in_err-checked.result (of_verdict invalid) c.from_residual-in_err-checked.ensures.1
    (verdict_refused bytes c.in_ok-module.module invalid c.in_ok-module.ensures c.in_err-checked.ensures)

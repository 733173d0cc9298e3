-- A container that passed isn't refused, and a refusal has a cause.
use Rattle.dxil_driver.proofs.Refused.{check_cause, passed_accepted}
use Rattle.dxil_driver.proofs.commands.check_input.Goals as goal

pub returns-clause-accepted : goal.returns-clause-accepted
returns-clause-accepted c = passed_accepted c.args.bytes.now c.in_ok-checked.checked c.requires c.in_ok-checked.ensures.fails

pub returns-in_err-checked-clause-cause : goal.returns-in_err-checked-clause-cause
returns-in_err-checked-clause-cause c = check_cause c.args.bytes.now c.from_residual.result c.in_err-checked.field-0.0 c.from_residual.ensures.1 c.in_err-checked.ensures.answer

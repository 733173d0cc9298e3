use Rattle.std.proofs.Common.{◌∙◌}
use Rattle.dxil_driver.proofs.HeldForms.{run-store, stmt-none}
use Rattle.dxil_driver.proofs.kernel_form.store.Goals as goal

pub returns-in-Run : goal.returns-in-Run
returns-in-Run c = c.form_store.ensures ∙ run-store c.args.statement.now c.in-Run.value c.in-Run.is

pub returns-in_default : goal.returns-in_default
returns-in_default c = stmt-none c.args.statement.now c.in_default.not-Run

use Rattle.std.proofs.Common.{arith}
use Rattle.hl_interpreter.proofs.WorkForms.{past-works}
use Rattle.hl_interpreter.proofs.works.wave_work_of.Goals as goal

pub returns-in_default : goal.returns-in_default
returns-in_default c = let h = c.in_default in past-works c.args.number (omega arith)

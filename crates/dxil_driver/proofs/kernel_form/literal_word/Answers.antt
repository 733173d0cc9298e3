use Rattle.dxil_driver.proofs.HeldForms.{literal-none, literal-word}
use Rattle.dxil_driver.proofs.kernel_form.literal_word.Goals as goal

pub returns-in-Literal : goal.returns-in-Literal
returns-in-Literal c = literal-word c.args.form.now _ c.in-Literal.is

pub returns-in_default : goal.returns-in_default
returns-in_default c = literal-none c.args.form.now c.in_default.not-Literal

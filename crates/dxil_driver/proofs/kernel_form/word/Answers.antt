use Rattle.std.proofs.Common.{◌∙◌}
use Rattle.dxil_driver.proofs.HeldForms.{word-converted, word-itself}
use Rattle.dxil_driver.proofs.kernel_form.word.Goals as goal

pub returns-in-Convert : goal.returns-in-Convert
returns-in-Convert c = c.literal_word.ensures ∙ word-converted c.args.value.now c.in-Convert.inner c.get.result.now c.in-Convert.is c.get.ensures

pub returns-in_default : goal.returns-in_default
returns-in_default c = c.literal_word-in_default.ensures ∙ word-itself c.args.value.now c.in_default.not-Convert

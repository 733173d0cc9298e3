-- A source that is compiled isn't refused.
use Rattle.dxil_driver.proofs.RefusedText.{compiled_accepted}
use Rattle.dxil_driver.proofs.commands.compile_input.Goals as goal

pub returns-clause-accepted : goal.returns-clause-accepted
returns-clause-accepted c = compiled_accepted c.args.text.now c.args.options.now c.requires c.in_ok-bytes.bytes c.in_ok-bytes.ensures.every_fault

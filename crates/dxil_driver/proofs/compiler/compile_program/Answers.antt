use Rattle.std.proofs.Common.{◌∙◌, sym}
use Rattle.hl_meaning.specs.Held.{plain_program}
use Rattle.dxil_driver.proofs.Formed.{has_buffer}
use Rattle.dxil_driver.proofs.compiler.compile_program.Goals as goal

pub kernel_container-requires : goal.kernel_container-requires
kernel_container-requires c = has_buffer (plain_program c.args.program.now) c.in-Some.form (sym c.in_ok-first_form.ensures ∙ c.in-Some.is)

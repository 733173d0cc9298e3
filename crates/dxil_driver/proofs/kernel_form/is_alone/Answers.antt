use Rattle.std.proofs.Common.{◌∙◌}
use Rattle.hl_meaning.specs.Held.{plain_program}
use Rattle.hl_meaning.specs.Views.{plain_constant, plain_struct, plain_variable}
use Rattle.dxil_driver.proofs.Formed.{is_alone-by, none_there}
use Rattle.dxil_driver.proofs.kernel_form.is_alone.Goals as goal

pub returns : goal.returns
returns c =
    c.all_three.ensures ∙ is_alone-by (plain_program c.args.program.now) c.is_empty-structs.result c.is_empty-shared.result c.is_empty-constants.result
    (none_there plain_struct c.args.program.now.structs c.is_empty-structs.result c.is_empty-structs.ensures)
    (none_there plain_variable c.args.program.now.shared c.is_empty-shared.result c.is_empty-shared.ensures)
    (none_there plain_constant c.args.program.now.constants c.is_empty-constants.result c.is_empty-constants.ensures)

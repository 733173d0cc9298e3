use Rattle.std.proofs.Common.{◌∙◌, ap, sym}
use Rattle.std.proofs.lemmas.List.{take_rest}
use Rattle.hl_meaning.specs.Views.{plain_root}
use Rattle.hl_meaning.proofs.Plain.{plain_root-Constant, plain_root-Element, plain_root-Shared, plain_root-Variable}
use Rattle.hl_source.specs.Offsets.{indexes_of_steps}
use Rattle.hl_interpreter.proofs.places.indexes_of_steps.Goals as goal

pub returns-else-is_empty : goal.returns-else-is_empty
returns-else-is_empty c =
    take_rest c.args.indexes.now 1 ∙ sym (ap (λ r. indexes_of_steps r c.args.indexes.now) (ap plain_root c.in-Element.is ∙ plain_root-Element c.in-Element.resource c.in-Element.index))

pub returns-in-Variable : goal.returns-in-Variable
returns-in-Variable c = sym (ap (λ r. indexes_of_steps r c.args.indexes.now) (ap plain_root c.in-Variable.is ∙ plain_root-Variable _))

pub returns-in-Constant : goal.returns-in-Constant
returns-in-Constant c = sym (ap (λ r. indexes_of_steps r c.args.indexes.now) (ap plain_root c.in-Constant.is ∙ plain_root-Constant _))

pub returns-in-Shared : goal.returns-in-Shared
returns-in-Shared c = sym (ap (λ r. indexes_of_steps r c.args.indexes.now) (ap plain_root c.in-Shared.is ∙ plain_root-Shared _))

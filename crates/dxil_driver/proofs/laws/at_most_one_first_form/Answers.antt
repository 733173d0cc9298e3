use Rattle.dxil_driver.proofs.OneForm.{one_form}
use Rattle.dxil_driver.proofs.laws.at_most_one_first_form.Goals as goal

pub returns : goal.returns
returns c = one_form c.at_most_one_token_list.ensures c.at_most_one_tree.ensures c.at_most_one_program.ensures

use Rattle.hl_lexer.proofs.ListedFacts.{forms_are_listed}
use Rattle.hl_lexer.proofs.laws.forms_are_listed.Goals as goal

pub returns : goal.returns
returns c = forms_are_listed

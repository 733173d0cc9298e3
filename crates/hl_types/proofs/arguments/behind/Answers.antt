use Rattle.std.proofs.Common.{◌∙◌, sym, ap}
use Rattle.hl_parser.specs.Views.{plain_of}
use Rattle.hl_parser.proofs.Plain.{plain-Args}
use Rattle.hl_types.specs.Arguments.{behind_arguments}
use Rattle.hl_values.specs.Known.{plain_known}
use Rattle.hl_types.proofs.ArgumentLemmas.{behind-none}
use Rattle.hl_types.proofs.arguments.behind.Goals as goal

pub returns-in-Args : goal.returns-in-Args
returns-in-Args c = sym (ap (λ a. behind_arguments a (plain_known c.args.typed)) (ap plain_of c.in-Args.is ∙ plain-Args _ _))

pub returns-in_default : goal.returns-in_default
returns-in_default c = c.without_code.ensures ∙ sym (behind-none c.args.arguments.now c.in_default.not-Args (plain_known c.args.typed))

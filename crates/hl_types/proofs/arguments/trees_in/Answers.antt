use Rattle.std.proofs.Common.{◌∙◌, sym, ap}
use Rattle.hl_parser.specs.Views.{plain_of, plain_trees}
use Rattle.hl_parser.proofs.Plain.{plain-Args}
use Rattle.hl_rules.specs.ExpressionRules.{argument_trees}
use Rattle.hl_types.proofs.ArgumentLemmas.{argument_trees-none}
use Rattle.hl_types.proofs.arguments.trees_in.Goals as goal

pub returns-in-Args : goal.returns-in-Args
returns-in-Args c = ap plain_trees c.as_slice.ensures ∙ sym (ap argument_trees (ap plain_of c.in-Args.is ∙ plain-Args _ _))

pub returns-in_default : goal.returns-in_default
returns-in_default c = sym (argument_trees-none c.args.arguments.now c.in_default.not-Args)

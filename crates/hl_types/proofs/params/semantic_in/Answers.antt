use Rattle.std.proofs.Common.{◌∙◌, sym, ap}
use Rattle.hl_parser.specs.Views.{plain_of}
use Rattle.hl_parser.proofs.Plain.{plain-Param}
use Rattle.hl_values.specs.ScopeViews.{scope_of}
use Rattle.hl_types.proofs.ParamLemmas.{no_param}
use Rattle.hl_rules.specs.DeclarationRules.{param_semantic}
use Rattle.hl_types.proofs.params.semantic_in.Goals as goal

pub returns-in-Param : goal.returns-in-Param
returns-in-Param c = c.semantic_if.ensures ∙ sym (ap (param_semantic (scope_of c.args.scope.now)) (ap plain_of c.in-Param.is ∙ plain-Param _ _ _ _ _ _))

pub returns-in_default : goal.returns-in_default
returns-in_default c = sym ((no_param (scope_of c.args.scope.now) c.args.tree.now c.in_default.not-Param).semantic)

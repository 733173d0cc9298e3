use Rattle.std.proofs.Common.{◌∙◌, sym, ap}
use Rattle.hl_parser.specs.Views.{plain_of}
use Rattle.hl_parser.proofs.Plain.{plain-Result}
use Rattle.hl_rules.specs.DeclarationRules.{is_no_result}
use Rattle.hl_types.proofs.DeclaredShapes.{is_no_result-none, no-value, none-is}
use Rattle.hl_types.proofs.whole.is_no_result.Goals as goal

pub returns-in-Result : goal.returns-in-Result
returns-in-Result c =
    none-is _ _ c.is_none.ensures ∙ (no-value c.in-Result.at c.in-Result.ty ∙ sym (ap is_no_result (ap plain_of c.in-Result.is ∙ plain-Result _ _)))

pub returns-in_default : goal.returns-in_default
returns-in_default c = sym (is_no_result-none c.args.gives.now c.in_default.not-Result)

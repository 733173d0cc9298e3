use Rattle.std.proofs.Common.{◌∙◌, sym}
use Rattle.std.proofs.lemmas.Result.{IfOk-weaker}
use Rattle.hl_parser.specs.Trees.{at_of}
use Rattle.hl_parser.specs.Views.{plain_of}
use Rattle.hl_rules.specs.Rules.{noted}
use Rattle.hl_rules.specs.Sites.{expression_sites}
use Rattle.hl_rules.specs.Values.{value_of}
use Rattle.hl_values.specs.ScopeViews.{scope_of}
use Rattle.hl_values.specs.Noted.{noted_operand}
use Rattle.hl_values.proofs.ExpressionLemmas.{choice-noted, choice-typed, noted-there}
use Rattle.hl_values.proofs.whole.whole_choice.Goals as goal

pub returns-clause-typed : goal.returns-clause-typed
returns-clause-typed c =
    IfOk-weaker c.choice.result _ _
    (λ t e. choice-typed (scope_of c.args.scope.now) c.args.at (plain_of c.args.condition.now) (plain_of c.args.consequent.now) (plain_of c.args.alternative.now) c.args.first c.args.second c.args.third t c.requires.first c.requires.second c.requires.third e)
    c.choice.ensures

pub returns-clause-found : goal.returns-clause-found
returns-clause-found c =
    IfOk-weaker c.choice.result _ _
    (λ t e f before.
    noted-there noted_operand c.args.found.now _ c.note_operand.new.found (scope_of c.args.scope.now) (plain_of c.args.alternative.now) c.args.third c.at.result c.requires.third c.at.ensures before c.note_operand.ensures ∙
    sym (choice-noted f (scope_of c.args.scope.now) c.args.at (plain_of c.args.condition.now) (plain_of c.args.consequent.now) (plain_of c.args.alternative.now)))
    c.choice.ensures

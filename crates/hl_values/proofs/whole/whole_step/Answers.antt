use Rattle.std.proofs.Common.{◌∙◌, sym}
use Rattle.std.proofs.lemmas.Result.{IfOk-weaker}
use Rattle.hl_parser.specs.Views.{plain_of}
use Rattle.hl_rules.specs.Rules.{noted}
use Rattle.hl_rules.specs.Sites.{expression_sites}
use Rattle.hl_rules.specs.Values.{value_of}
use Rattle.hl_parser.specs.Trees.{at_of}
use Rattle.hl_values.specs.ScopeViews.{scope_of}
use Rattle.hl_values.specs.Noted.{noted_operand, noted_written}
use Rattle.hl_values.proofs.ExpressionLemmas.{noted-there, step-noted, step-typed}
use Rattle.hl_values.proofs.whole.whole_step.Goals as goal

pub returns-clause-typed : goal.returns-clause-typed
returns-clause-typed c =
    IfOk-weaker c.step.result _ _ (λ t e. step-typed (scope_of c.args.scope.now) c.args.at c.args.mark (plain_of c.args.operand.now) c.args.value t c.requires e) c.step.ensures

pub returns-clause-found : goal.returns-clause-found
returns-clause-found c =
    IfOk-weaker c.step.result _ _
    (λ t e f before.
    noted-there noted_written c.note_operand.new.found _ c.note_written.new.found (scope_of c.args.scope.now) (plain_of c.args.operand.now) c.args.value c.at-2.result c.requires c.at-2.ensures
    (noted-there noted_operand c.args.found.now _ c.note_operand.new.found (scope_of c.args.scope.now) (plain_of c.args.operand.now) c.args.value c.at.result c.requires c.at.ensures before c.note_operand.ensures)
    c.note_written.ensures ∙
    sym (step-noted f (scope_of c.args.scope.now) c.args.at c.args.mark (plain_of c.args.operand.now)))
    c.step.ensures

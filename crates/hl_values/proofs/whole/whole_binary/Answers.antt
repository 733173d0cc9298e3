use Rattle.std.proofs.Common.{◌∙◌, sym}
use Rattle.std.proofs.lemmas.Result.{IfOk-weaker}
use Rattle.hl_parser.specs.Views.{plain_of}
use Rattle.hl_rules.specs.Rules.{noted}
use Rattle.hl_rules.specs.Sites.{expression_sites}
use Rattle.hl_rules.specs.Values.{value_of}
use Rattle.hl_parser.specs.Trees.{at_of}
use Rattle.hl_values.specs.Basics.{production_of}
use Rattle.hl_values.specs.ScopeViews.{scope_of}
use Rattle.hl_values.specs.Noted.{noted_operand}
use Rattle.hl_values.proofs.ExpressionLemmas.{binary-noted, binary-typed, noted-there}
use Rattle.hl_values.proofs.whole.whole_binary.Goals as goal

pub returns-clause-typed : goal.returns-clause-typed
returns-clause-typed c =
    IfOk-weaker c.binary.result _ _
    (λ t e. binary-typed (scope_of c.args.scope.now) (production_of c.args.operator) c.args.at c.args.mark (plain_of c.args.left.now) (plain_of c.args.right.now) c.args.first c.args.second t c.requires.first c.requires.second e)
    c.binary.ensures

pub returns-clause-found : goal.returns-clause-found
returns-clause-found c =
    IfOk-weaker c.binary.result _ _
    (λ t e f before.
    noted-there noted_operand c.args.found.now _ c.note_operand.new.found (scope_of c.args.scope.now) (plain_of c.args.right.now) c.args.second c.at.result c.requires.second c.at.ensures before c.note_operand.ensures ∙
    sym (binary-noted f (scope_of c.args.scope.now) (production_of c.args.operator) c.args.at c.args.mark (plain_of c.args.left.now) (plain_of c.args.right.now)))
    c.binary.ensures

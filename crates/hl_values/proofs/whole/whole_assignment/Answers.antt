use Rattle.std.proofs.Common.{◌∙◌, sym, ap}
use Rattle.std.proofs.lemmas.Result.{IfOk-weaker}
use Rattle.hl_parser.specs.Trees.{at_of}
use Rattle.hl_parser.specs.Views.{plain_of}
use Rattle.hl_rules.specs.Rules.{noted}
use Rattle.hl_rules.specs.Sites.{expression_sites}
use Rattle.hl_rules.specs.Source.{terminal_at}
use Rattle.hl_rules.specs.Values.{value_of}
use Rattle.hl_values.specs.ScopeViews.{scope_of}
use Rattle.hl_values.specs.Noted.{noted_assigned, noted_side}
use Rattle.hl_values.proofs.ExpressionLemmas.{assigned-there, assignment-noted, assignment-typed, noted-there}
use Rattle.hl_values.proofs.whole.whole_assignment.Goals as goal

pub returns-clause-typed : goal.returns-clause-typed
returns-clause-typed c =
    IfOk-weaker c.assignment.result _ _
    (λ t e. assignment-typed (scope_of c.args.scope.now) c.args.at c.args.mark (plain_of c.args.left.now) (plain_of c.args.right.now) c.args.first c.args.second t c.requires.first c.requires.second e)
    c.assignment.ensures

pub returns-clause-found : goal.returns-clause-found
returns-clause-found c =
    let s = scope_of c.args.scope.now in
    let l = plain_of c.args.left.now in
    let r = plain_of c.args.right.now in
    IfOk-weaker c.assignment.result _ _
    (λ t e f before.
    let inside = noted (noted_side (noted f (expression_sites s l)) (terminal_at s.tokens c.args.mark) (value_of s l) (at_of l)) (expression_sites s r) in
    assigned-there c.terminal_at-terminal.result c.note_side.new.found (noted_side inside c.terminal_at-terminal.result (value_of s r) (at_of r)) c.note_assigned.new.found s l r c.args.first c.args.second c.at-2.result c.at-3.result c.requires.first c.requires.second c.at-2.ensures c.at-3.ensures
    (noted-there (λ x. noted_side x c.terminal_at-terminal.result) c.args.found.now inside c.note_side.new.found s r c.args.second c.at.result c.requires.second c.at.ensures before c.note_side.ensures)
    c.note_assigned.ensures ∙
    (ap (λ m. noted_assigned (noted_side inside m (value_of s r) (at_of r)) m (value_of s l) (value_of s r) (at_of l) (at_of r)) c.terminal_at-terminal.ensures ∙
    sym (assignment-noted f s c.args.at c.args.mark l r)))
    c.assignment.ensures

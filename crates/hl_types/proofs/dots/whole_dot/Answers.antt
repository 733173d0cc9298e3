use Rattle.std.proofs.Common.{◌∙◌, sym}
use Rattle.std.proofs.lemmas.Result.{IfOk-weaker}
use Rattle.hl_parser.specs.Trees.{at_of}
use Rattle.hl_parser.specs.Views.{plain_of}
use Rattle.hl_rules.specs.Rules.{noted}
use Rattle.hl_rules.specs.Sites.{expression_sites}
use Rattle.hl_rules.specs.Values.{value_of}
use Rattle.hl_values.specs.Noted.{noted_use}
use Rattle.hl_values.specs.ScopeViews.{scope_of}
use Rattle.hl_values.proofs.ExpressionLemmas.{noted-there}
use Rattle.hl_types.proofs.DotLemmas.{dot-noted, dot-there, dot-typed}
use Rattle.hl_types.proofs.dots.whole_dot.Goals as goal

pub returns-clause-typed : goal.returns-clause-typed
returns-clause-typed c =
    IfOk-weaker c.dotted.result _ _ (λ t e. dot-typed (scope_of c.args.scope.now) c.args.at c.args.mark c.args.name (plain_of c.args.operand.now) c.args.value t c.requires e) c.dotted.ensures

pub returns-clause-found : goal.returns-clause-found
returns-clause-found c =
    let s = scope_of c.args.scope.now in
    let o = plain_of c.args.operand.now in
    let dot = c.in_ok-note_dot.ensures in
    IfOk-weaker c.dotted.result _ _
    (λ t e f before.
    dot-there c.note_use.new.found (noted_use (noted f (expression_sites s o)) (value_of s o) (at_of o)) c.note_dot.new.found s o c.args.value c.args.name c.requires
    (noted-there noted_use c.args.found.now (noted f (expression_sites s o)) c.note_use.new.found s o c.args.value c.at.result c.requires c.at.ensures before c.note_use.ensures)
    dot ∙
    sym (dot-noted f s c.args.at c.args.mark c.args.name o))
    c.dotted.ensures

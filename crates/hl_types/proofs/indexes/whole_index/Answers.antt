use Rattle.std.proofs.Common.{◌∙◌, sym, ap, None}
use Rattle.std.proofs.lemmas.Result.{IfOk-weaker}
use Rattle.hl_parser.specs.Trees.{at_of}
use Rattle.hl_parser.specs.Views.{plain_of}
use Rattle.hl_rules.specs.Rules.{noted}
use Rattle.hl_rules.specs.Sites.{expression_sites}
use Rattle.hl_rules.specs.Values.{value_of}
use Rattle.hl_values.specs.Noted.{noted_index, noted_use}
use Rattle.hl_values.specs.ScopeViews.{scope_of}
use Rattle.hl_values.specs.Views.{plain_value}
use Rattle.hl_values.proofs.ExpressionLemmas.{noted-there}
use Rattle.hl_types.proofs.IndexLemmas.{index-noted, index-there, index-typed}
use Rattle.hl_types.proofs.indexes.whole_index.Goals as goal

pub returns-clause-typed : goal.returns-clause-typed
returns-clause-typed c =
    let s = scope_of c.args.scope.now in
    IfOk-weaker c.indexed.result _ _
    (λ t e. index-typed s c.args.at c.args.mark (plain_of c.args.operand.now) (plain_of c.args.index.now) c.args.first c.args.second t c.bare_at.result c.requires.value c.requires.first c.requires.second c.bare_at.ensures e)
    (c.indexed.ensures s)

pub returns-clause-found : goal.returns-clause-found
returns-clause-found c =
    let s = scope_of c.args.scope.now in
    let o = plain_of c.args.operand.now in
    let i = plain_of c.args.index.now in
    IfOk-weaker c.indexed.result _ _
    (λ t e f before.
    let inside = noted (noted_use (noted f (expression_sites s o)) (value_of s o) (at_of o)) (expression_sites s i) in
    index-there c.note_use.new.found (noted_use inside (value_of s i) (at_of i)) c.note_index.new.found s None (value_of s o) i c.args.second c.at-2.result c.requires.second c.at-2.ensures
    (noted-there noted_use c.args.found.now inside c.note_use.new.found s i c.args.second c.at.result c.requires.second c.at.ensures before c.note_use.ensures)
    (c.note_index.ensures ∙ ap (λ v. noted_index c.note_use.new.found None v (plain_value c.args.second) c.args.second.number c.at-2.result) c.requires.first.value) ∙
    sym (index-noted f s c.args.at c.args.mark o i c.requires.value))
    (c.indexed.ensures s)

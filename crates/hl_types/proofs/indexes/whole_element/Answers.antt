use Rattle.std.proofs.Common.{◌∙◌, sym, None, Some}
use Rattle.std.proofs.lemmas.Result.{IfOk-weaker}
use Rattle.hl_parser.specs.Trees.{at_of}
use Rattle.hl_parser.specs.Views.{plain_of}
use Rattle.hl_rules.specs.Rules.{noted}
use Rattle.hl_rules.specs.Sites.{expression_sites}
use Rattle.hl_rules.specs.Values.{unclear, value, value_of}
use Rattle.hl_values.specs.Noted.{noted_use}
use Rattle.hl_values.specs.ScopeViews.{plain_buffer, scope_of}
use Rattle.hl_values.proofs.ExpressionLemmas.{noted-there}
use Rattle.hl_types.proofs.IndexLemmas.{element-noted, element-typed, index-there}
use Rattle.hl_types.proofs.indexes.whole_element.Goals as goal

pub returns-clause-typed : goal.returns-clause-typed
returns-clause-typed c =
    IfOk-weaker c.element.result _ _
    (λ t e. element-typed (scope_of c.args.scope.now) c.args.at c.args.mark (plain_of c.args.operand.now) (plain_of c.args.index.now) (plain_buffer c.in-Some-buffer.buffer.now) c.in-Some.number c.args.value t c.bare_at.result
    c.in-Some.ensures c.in-Some-buffer.ensures c.requires.value c.bare_at.ensures e)
    c.element.ensures

pub returns-clause-found : goal.returns-clause-found
returns-clause-found c =
    let s = scope_of c.args.scope.now in
    let o = plain_of c.args.operand.now in
    let i = plain_of c.args.index.now in
    let buffer = plain_buffer c.in-Some-buffer.buffer.now in
    IfOk-weaker c.element.result _ _
    (λ t e f before.
    let inside = noted f (expression_sites s i) in
    index-there c.note_use.new.found (noted_use inside (value_of s i) (at_of i)) c.note_element.new.found s (Some buffer) (value None unclear) i c.args.value c.at-2.result c.requires.value c.at-2.ensures
    (noted-there noted_use c.args.found.now inside c.note_use.new.found s i c.args.value c.at.result c.requires.value c.at.ensures before c.note_use.ensures)
    c.note_element.ensures ∙
    sym (element-noted f s c.args.at c.args.mark o i buffer c.in-Some.number c.in-Some.ensures c.in-Some-buffer.ensures))
    c.element.ensures

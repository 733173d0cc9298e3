use Rattle.std.proofs.Common.{◌∙◌, ◌≡◌, sym, ap, subst}
use Rattle.std.proofs.lemmas.Result.{IfOk-weaker}
use Rattle.hl_parser.specs.declared.tree.Tree.{Tree}
use Rattle.hl_parser.specs.Trees.{a_unary, at_of}
use Rattle.hl_parser.specs.Views.{plain_maybe, plain_of}
use Rattle.hl_meaning.specs.Views.{plain_ty}
use Rattle.hl_rules.specs.Constants.{basic_type}
use Rattle.hl_rules.specs.Rules.{noted}
use Rattle.hl_rules.specs.Sites.{expression_sites}
use Rattle.hl_rules.specs.Source.{terminal_at}
use Rattle.hl_rules.specs.Values.{value_of}
use Rattle.hl_values.specs.ScopeViews.{scope_of}
use Rattle.hl_values.specs.Noted.{noted_prefix, noted_use}
use Rattle.hl_values.specs.TypedViews.{IsTyped}
use Rattle.hl_values.proofs.ExpressionLemmas.{cast-noted, cast-there, cast-typed, noted-there, prefix-noted, prefix-typed}
use Rattle.hl_values.proofs.whole.whole_unary.Goals as goal

pub returns-in-Some-clause-typed : goal.returns-in-Some-clause-typed
returns-in-Some-clause-typed c =
    let s = scope_of c.args.scope.now in
    let o = plain_of c.args.operand.now in
    IfOk-weaker c.cast.result _ _
    (λ t e. subst (λ m. IsTyped s (a_unary c.args.at m o) t) (sym (ap plain_maybe c.in-Some.is))
    (cast-typed s c.args.at (plain_of c.in-Some.basic) o c.args.value t (plain_ty c.basic_type-ty.result) c.requires (c.basic_type-ty.ensures ∙ ap (λ (b : Tree). basic_type s (plain_of b)) c.get.ensures) e))
    c.cast.ensures

pub returns-in-Some-clause-found : goal.returns-in-Some-clause-found
returns-in-Some-clause-found c =
    let s = scope_of c.args.scope.now in
    let o = plain_of c.args.operand.now in
    IfOk-weaker c.cast.result _ _
    (λ t e f before.
    cast-there c.note_use.new.found (noted_use (noted f (expression_sites s o)) (value_of s o) (at_of o)) c.note_cast.new.found s o c.args.value (plain_ty c.basic_type-ty.result) (basic_type s (plain_of c.in-Some.basic)) c.args.at c.requires
    (c.basic_type-ty.ensures ∙ ap (λ (b : Tree). basic_type s (plain_of b)) c.get.ensures)
    (noted-there noted_use c.args.found.now (noted f (expression_sites s o)) c.note_use.new.found s o c.args.value c.at.result c.requires c.at.ensures before c.note_use.ensures)
    c.note_cast.ensures ∙
    (sym (cast-noted f s c.args.at (plain_of c.in-Some.basic) o) ∙ ap (λ m. noted f (expression_sites s (a_unary c.args.at m o))) (sym (ap plain_maybe c.in-Some.is))))
    c.cast.ensures

pub returns-in-None-clause-typed : goal.returns-in-None-clause-typed
returns-in-None-clause-typed c =
    let s = scope_of c.args.scope.now in
    let o = plain_of c.args.operand.now in
    IfOk-weaker c.prefix.result _ _
    (λ t e. subst (λ m. IsTyped s (a_unary c.args.at m o) t) (sym (ap plain_maybe c.in-None.is)) (prefix-typed s c.args.at o c.args.value t c.requires e))
    c.prefix.ensures

pub returns-in-None-clause-found : goal.returns-in-None-clause-found
returns-in-None-clause-found c =
    let s = scope_of c.args.scope.now in
    let o = plain_of c.args.operand.now in
    IfOk-weaker c.prefix.result _ _
    (λ t e f before.
    noted-there (λ x. noted_prefix x c.terminal_at.result) c.args.found.now (noted f (expression_sites s o)) c.note_prefix.new.found s o c.args.value c.at-in-None.result c.requires c.at-in-None.ensures before c.note_prefix.ensures ∙
    (ap (λ m. noted_prefix (noted f (expression_sites s o)) m (value_of s o) (at_of o)) c.terminal_at.ensures ∙
    (sym (prefix-noted f s c.args.at o) ∙ ap (λ m. noted f (expression_sites s (a_unary c.args.at m o))) (sym (ap plain_maybe c.in-None.is)))))
    c.prefix.ensures

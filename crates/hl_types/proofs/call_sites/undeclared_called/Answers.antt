use Rattle.std.proofs.Common.{◌≡◌, ◌∙◌, sym, ap, map, None, Some}
use Rattle.std.proofs.lemmas.Result.{IfOk-weaker, on_ok_weaker}
use Rattle.hl_parser.specs.Views.{plain_trees}
use Rattle.hl_rules.specs.Intrinsics.{intrinsic_named}
use Rattle.hl_rules.specs.Scopes.{spelled}
use Rattle.hl_values.specs.Arguments.{plain_codes}
use Rattle.hl_values.specs.Known.{plain_known}
use Rattle.hl_values.specs.ScopeViews.{scope_of}
use Rattle.hl_values.specs.Views.{plain_value}
use Rattle.hl_types.proofs.CallLemmas.{intrinsic-called, undeclared-found, unknown-called}
use Rattle.hl_types.proofs.call_sites.undeclared_called.Goals as goal

pub returns-in-Some-clause-typed : goal.returns-in-Some-clause-typed
returns-in-Some-clause-typed c =
    let s = scope_of c.args.scope.now in
    let named : Some c.in-Some.number ≡ intrinsic_named (spelled s c.args.at) = sym c.in-Some.is ∙ (c.intrinsic_named.ensures ∙ ap intrinsic_named c.text_at.ensures) in
    IfOk-weaker c.intrinsic_called.result _ _
    (λ t e. intrinsic-called s c.args.at c.in-Some.number (map plain_value c.args.args) (plain_codes c.args.args) (plain_known t) named e)
    c.intrinsic_called.ensures.typed

pub returns-in-Some-clause-found : goal.returns-in-Some-clause-found
returns-in-Some-clause-found c =
    let s = scope_of c.args.scope.now in
    let named : Some c.in-Some.number ≡ intrinsic_named (spelled s c.args.at) = sym c.in-Some.is ∙ (c.intrinsic_named.ensures ∙ ap intrinsic_named c.text_at.ensures) in
    on_ok_weaker c.intrinsic_called.result
    (λ e. undeclared-found c.args.found.now c.intrinsic_called.new.found s c.args.at (plain_trees c.args.trees.now) (map plain_value c.args.args) (Some c.in-Some.number) named (e s c.requires))
    c.intrinsic_called.ensures.found

pub returns-in-None-clause-typed : goal.returns-in-None-clause-typed
returns-in-None-clause-typed c =
    let s = scope_of c.args.scope.now in
    let named : None ≡ intrinsic_named (spelled s c.args.at) = sym c.in-None.is ∙ (c.intrinsic_named.ensures ∙ ap intrinsic_named c.text_at.ensures) in
    unknown-called s c.args.at (map plain_value c.args.args) (plain_codes c.args.args) (plain_known c.refused.result) named c.refused.ensures.typed

pub returns-in-None-clause-found : goal.returns-in-None-clause-found
returns-in-None-clause-found c =
    let s = scope_of c.args.scope.now in
    let named : None ≡ intrinsic_named (spelled s c.args.at) = sym c.in-None.is ∙ (c.intrinsic_named.ensures ∙ ap intrinsic_named c.text_at.ensures) in
    undeclared-found c.args.found.now c.refused.new.found s c.args.at (plain_trees c.args.trees.now) (map plain_value c.args.args) None named c.refused.ensures.found

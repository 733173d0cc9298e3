use Rattle.std.proofs.Common.{◌≡◌, ◌∙◌, sym, ap, map, None, Some}
use Rattle.std.specs.Option.{option_copied}
use Rattle.std.proofs.lemmas.Result.{IfOk-weaker}
use Rattle.hl_parser.specs.Views.{plain_trees}
use Rattle.hl_rules.specs.Scopes.{sort_at}
use Rattle.hl_values.specs.Arguments.{plain_codes}
use Rattle.hl_values.specs.Known.{plain_known}
use Rattle.hl_values.specs.ScopeViews.{plain_sort, plain_sort_if, scope_of}
use Rattle.hl_values.specs.Views.{plain_value}
use Rattle.hl_types.proofs.CallLemmas.{sort-found, sort-known}
use Rattle.hl_types.proofs.call_sites.called.Goals as goal

pub returns-in-None-clause-typed : goal.returns-in-None-clause-typed
returns-in-None-clause-typed c =
    let s = scope_of c.args.scope.now in
    let sort : None ≡ sort_at s c.args.at = sym (ap (λ o. plain_sort_if (option_copied o)) c.in-None.is) ∙ c.sort_at.ensures in
    IfOk-weaker c.undeclared_called.result _ _ (λ t e. sort-known s c.args.at (map plain_value c.args.args) (plain_codes c.args.args) None (sort_at s c.args.at) (plain_known t) sort e) c.undeclared_called.ensures.typed

pub returns-in-None-clause-found : goal.returns-in-None-clause-found
returns-in-None-clause-found c =
    let s = scope_of c.args.scope.now in
    let sort : None ≡ sort_at s c.args.at = sym (ap (λ o. plain_sort_if (option_copied o)) c.in-None.is) ∙ c.sort_at.ensures in
    IfOk-weaker c.undeclared_called.result _ _ (λ t e. sort-found c.args.found.now c.undeclared_called.new.found s c.args.at (plain_trees c.args.trees.now) (map plain_value c.args.args) None (sort_at s c.args.at) sort e) c.undeclared_called.ensures.found

pub returns-in-Some-clause-typed : goal.returns-in-Some-clause-typed
returns-in-Some-clause-typed c =
    let s = scope_of c.args.scope.now in
    let sort : Some (plain_sort c.in-Some.sort.now) ≡ sort_at s c.args.at = sym (ap (λ o. plain_sort_if (option_copied o)) c.in-Some.is) ∙ c.sort_at.ensures in
    IfOk-weaker c.sort_called.result _ _ (λ t e. sort-known s c.args.at (map plain_value c.args.args) (plain_codes c.args.args) (Some (plain_sort c.in-Some.sort.now)) (sort_at s c.args.at) (plain_known t) sort e) c.sort_called.ensures.typed

pub returns-in-Some-clause-found : goal.returns-in-Some-clause-found
returns-in-Some-clause-found c =
    let s = scope_of c.args.scope.now in
    let sort : Some (plain_sort c.in-Some.sort.now) ≡ sort_at s c.args.at = sym (ap (λ o. plain_sort_if (option_copied o)) c.in-Some.is) ∙ c.sort_at.ensures in
    IfOk-weaker c.sort_called.result _ _ (λ t e. sort-found c.args.found.now c.sort_called.new.found s c.args.at (plain_trees c.args.trees.now) (map plain_value c.args.args) (Some (plain_sort c.in-Some.sort.now)) (sort_at s c.args.at) sort e) c.sort_called.ensures.found

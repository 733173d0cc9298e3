use Rattle.std.proofs.Common.{◌∙◌, ap, ◌++◌, ◌∷◌, [], map}
use Rattle.std.proofs.lemmas.List.{map-append}
use Rattle.hl_meaning.specs.Views.{plain_variable}
use Rattle.hl_parser.specs.Trees.{at_of}
use Rattle.hl_parser.specs.Views.{plain_of}
use Rattle.hl_rules.specs.Elaboration.{variable_of}
use Rattle.hl_values.specs.ScopeChanges.{with_shared_named}
use Rattle.hl_values.specs.ScopeViews.{scope_of}
use Rattle.hl_values.specs.Views.{plain_type_if}
use Rattle.hl_types.proofs.DeclaredItems.{variable-noted}
use Rattle.hl_types.proofs.shared.shared_variable.Goals as goal

pub returns-clause-scope : goal.returns-clause-scope
returns-clause-scope c =
    let s = scope_of c.args.scope.now in
    c.in_ok-declare_shared.ensures.scope ∙
    (ap (λ n. with_shared_named n (plain_type_if c.in_ok-own.own) s) c.at-name.ensures ∙
    ap (λ o. with_shared_named (at_of (plain_of c.args.tree.now)) o s) c.in_ok-own.ensures.ty)

pub returns-clause-made : goal.returns-clause-made
returns-clause-made c =
    let s = scope_of c.args.scope.now in
    let before = map plain_variable c.args.made.now in
    ap (map plain_variable) c.in_ok-push.ensures.ok ∙
    (map-append plain_variable c.args.made.now _ ∙
    (ap (λ x. before ++ x ∷ []) c.in_ok-variable.ensures ∙
    (ap (λ n. before ++ variable_of s n (plain_type_if c.in_ok-own.own) ∷ []) c.at-name.ensures ∙
    ap (λ o. before ++ variable_of s (at_of (plain_of c.args.tree.now)) o ∷ []) c.in_ok-own.ensures.ty)))

pub returns-clause-found : goal.returns-clause-found
returns-clause-found c =
    variable-noted (scope_of c.args.scope.now) (plain_type_if c.args.ty.now) (plain_of c.args.tree.now) c.at-name.result c.args.found.now c.declarator.new.found _
    c.in_ok-own.ensures.found c.at-name.ensures c.note_global.ensures

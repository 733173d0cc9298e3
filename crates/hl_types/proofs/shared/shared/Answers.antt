use Rattle.std.proofs.Common.{◌∙◌, sym, ap, ◌++◌, map}
use Rattle.hl_parser.specs.Views.{plain_of, plain_trees}
use Rattle.hl_meaning.specs.Views.{plain_variable}
use Rattle.hl_rules.specs.Constants.{named_type}
use Rattle.hl_rules.specs.Declarations.{after_shared}
use Rattle.hl_rules.specs.Elaboration.{declared_shared}
use Rattle.hl_rules.specs.Rules.{noted}
use Rattle.hl_rules.specs.Sites.{shared_sites, type_sites}
use Rattle.hl_rules.proofs.Noting.{noted-append}
use Rattle.hl_values.specs.ScopeViews.{scope_of}
use Rattle.hl_types.proofs.shared.shared.Goals as goal

pub returns-clause-scope : goal.returns-clause-scope
returns-clause-scope c =
    let s = scope_of c.args.scope.now in
    c.in_ok-shared_variables.ensures.scope ∙
    (ap (λ o. after_shared o s (plain_trees c.as_slice.result.now)) c.named_type-named.ensures ∙
    ap (λ l. after_shared (named_type s (plain_of c.args.ty.now)) s (plain_trees l)) c.as_slice.ensures)

pub returns-clause-made : goal.returns-clause-made
returns-clause-made c =
    let s = scope_of c.args.scope.now in
    c.in_ok-shared_variables.ensures.made ∙
    ap (λ l. map plain_variable c.args.made.now ++ l)
    (ap (λ o. declared_shared o s (plain_trees c.as_slice.result.now)) c.named_type-named.ensures ∙
    ap (λ l. declared_shared (named_type s (plain_of c.args.ty.now)) s (plain_trees l)) c.as_slice.ensures)

pub returns-clause-found : goal.returns-clause-found
returns-clause-found c =
    let s = scope_of c.args.scope.now in
    let ty = named_type s (plain_of c.args.ty.now) in
    c.in_ok-shared_variables.ensures.found ∙
    (ap (λ o. noted c.note_type.new.found (shared_sites o s (plain_trees c.as_slice.result.now))) c.named_type-named.ensures ∙
    (ap (λ l. noted c.note_type.new.found (shared_sites ty s (plain_trees l))) c.as_slice.ensures ∙
    (ap (λ f. noted f (shared_sites ty s (plain_trees c.args.trees.now))) c.note_type.ensures ∙
    sym (noted-append c.args.found.now (type_sites s (plain_of c.args.ty.now)) (shared_sites ty s (plain_trees c.args.trees.now))))))

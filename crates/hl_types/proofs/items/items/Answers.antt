use Rattle.std.proofs.Common.{◌∙◌, sym, subst, ap, map}
use Rattle.hl_lexer.specs.Tokens.{lexeme_of}
use Rattle.hl_parser.specs.Views.{plain_trees}
use Rattle.hl_rules.specs.Elaboration.{after_items}
use Rattle.hl_rules.specs.Rules.{noted}
use Rattle.hl_rules.specs.Scopes.{first_scope}
use Rattle.hl_rules.specs.Sites.{items_sites}
use Rattle.hl_values.specs.ScopeChanges.{outside}
use Rattle.hl_values.specs.ScopeViews.{scope_of}
use Rattle.hl_types.specs.Items.{AreMadeBy, made_of}
use Rattle.hl_types.proofs.ItemLemmas.{program-made}
use Rattle.hl_types.proofs.MadeLemmas.{gathered_of, made-none}
use Rattle.hl_types.proofs.items.items.Goals as goal

pub all_items-requires : goal.all_items-requires
all_items-requires c = ap outside c.new-scope.ensures.scope ∙ sym c.new-scope.ensures.scope

pub returns-clause-found : goal.returns-clause-found
returns-clause-found c =
    c.in_ok-all_items.ensures.found ∙
    (ap (λ s. noted c.args.found.now (items_sites s (plain_trees c.as_slice.result.now))) c.new-scope.ensures.scope ∙
    ap (λ l. noted c.args.found.now (items_sites (first_scope (map lexeme_of c.args.tokens.now) c.args.entry.now) (plain_trees l))) c.as_slice.ensures)

pub returns-clause-made : goal.returns-clause-made
returns-clause-made c = λ none.
    let first = first_scope (map lexeme_of c.args.tokens.now) c.args.entry.now in
    let trees = plain_trees c.args.trees.now in
    let start = made_of (gathered_of c.new.result c.new-2.result c.new-3.result c.new-4.result) in
    let made = made_of c.all_items.new.gathered in
    let behind = c.in_ok-all_items.ensures.scope ∙
    (ap (λ s. after_items s (plain_trees c.as_slice.result.now)) c.new-scope.ensures.scope ∙ ap (λ l. after_items first (plain_trees l)) c.as_slice.ensures) in
    c.in_ok-made.ensures ∙
    program-made first (scope_of c.all_items.new.scope) trees made behind
    (subst (λ before. AreMadeBy first trees before made) (made-none c.new.result c.new-2.result c.new-3.result c.new-4.result c.new.ensures c.new-2.ensures c.new-3.ensures c.new-4.ensures)
    (subst (λ l. AreMadeBy first (plain_trees l) start made) c.as_slice.ensures (subst (λ s. AreMadeBy s (plain_trees c.as_slice.result.now) start made) c.new-scope.ensures.scope (c.in_ok-all_items.ensures.made none))))

use Rattle.std.proofs.Common.{◌∙◌, sym, subst, ap, [], ◌∷◌, ◌+◌, drop}
use Rattle.std.proofs.lemmas.List.{drop_all}
use Rattle.hl_parser.specs.Views.{plain_of, plain_trees}
use Rattle.hl_rules.specs.Declarations.{after_item}
use Rattle.hl_rules.specs.Elaboration.{after_items}
use Rattle.hl_rules.specs.Parts.{an_end, site}
use Rattle.hl_rules.specs.Rules.{noted}
use Rattle.hl_rules.specs.Sites.{item_sites, items_sites}
use Rattle.hl_rules.proofs.Noting.{noted-append}
use Rattle.hl_values.specs.ScopeChanges.{outside}
use Rattle.hl_values.specs.ScopeViews.{scope_of}
use Rattle.hl_types.specs.Items.{AreMadeBy, made_of}
use Rattle.hl_types.proofs.FreeLemmas.{none-before}
use Rattle.hl_types.proofs.ItemLemmas.{more-made, none-made, outside-item}
use Rattle.hl_types.proofs.Turns.{left-end, left-step, left-turn}
use Rattle.hl_types.proofs.items.all_items.Goals as goal

pub item-requires : goal.item-requires
item-requires c = c.loop-tree.invariant.outside

pub loop-tree-preserved : goal.loop-tree-preserved
loop-tree-preserved c =
    let s = scope_of c.loop-tree.scope in
    let xs = c.args.trees.now in
    let i = c.loop-tree.tree-index in
    let x = c.tree-item.result in
    let t = plain_of x in
    let rest = plain_trees (drop (i + 1) xs) in
    let within = c.loop-tree-test.true in
    let before = made_of c.loop-tree.gathered in
    let mid = made_of c.item.new.gathered in
    let e = c.in_ok-item.ensures.scope in
    record {
      outside = ap outside e ∙ (outside-item s t c.loop-tree.invariant.outside ∙ sym e);
      made = λ none after more.
          c.loop-tree.invariant.made (none-before c.loop-tree.found c.item.new.found (item_sites s t) c.in_ok-item.ensures.found none) after
          (subst (λ l. AreMadeBy s (plain_trees l) before after) (sym (left-step xs i x within c.tree-item.is))
          (more-made s t rest before mid after (c.in_ok-item.ensures.made none) (subst (λ y. AreMadeBy y rest mid after) e more)));
      scope = ap (λ y. after_items y rest) e ∙ left-turn (λ l. after_items s (plain_trees l)) xs i x _ within c.tree-item.is c.loop-tree.invariant.scope;
      found =
          ap (λ y. noted c.item.new.found (items_sites y rest)) e ∙ (ap (λ f. noted f (items_sites (after_item s t) rest)) c.in_ok-item.ensures.found ∙
          (sym (noted-append c.loop-tree.found (item_sites s t) (items_sites (after_item s t) rest)) ∙
          left-turn (λ l. noted c.loop-tree.found (items_sites s (plain_trees l))) xs i x _ within c.tree-item.is c.loop-tree.invariant.found));
    }

pub returns-clause-made : goal.returns-clause-made
returns-clause-made c = λ none.
    let s = scope_of c.loop-tree.scope in
    let made = made_of c.loop-tree.gathered in
    c.loop-tree.invariant.made (none-before c.loop-tree.found c.note_end.new.found (site s an_end ∷ []) c.note_end.ensures none) made
    (subst (λ l. AreMadeBy s (plain_trees l) made made) (sym (drop_all c.loop-tree.tree-index c.args.trees.now c.loop-tree-test.false)) (none-made s made))

pub returns-clause-scope : goal.returns-clause-scope
returns-clause-scope c =
    left-end (λ l. after_items (scope_of c.loop-tree.scope) (plain_trees l)) c.args.trees.now c.loop-tree.tree-index _ c.loop-tree-test.false c.loop-tree.invariant.scope

pub returns-clause-found : goal.returns-clause-found
returns-clause-found c =
    c.note_end.ensures ∙
    left-end (λ l. noted c.loop-tree.found (items_sites (scope_of c.loop-tree.scope) (plain_trees l))) c.args.trees.now c.loop-tree.tree-index _ c.loop-tree-test.false c.loop-tree.invariant.found

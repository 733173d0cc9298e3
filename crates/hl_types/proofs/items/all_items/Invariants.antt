use Rattle.std.proofs.Common.{◌≡◌, None, drop}
use Rattle.hl_parser.specs.Views.{plain_trees}
use Rattle.hl_rules.specs.Elaboration.{after_items}
use Rattle.hl_rules.specs.Rules.{noted}
use Rattle.hl_rules.specs.Sites.{items_sites}
use Rattle.hl_values.specs.ScopeChanges.{outside}
use Rattle.hl_values.specs.ScopeViews.{scope_of}
use Rattle.hl_types.specs.Items.{AreMadeBy, Made, made_of}
use Rattle.hl_types.proofs.items.all_items.Given as goal

abbrev pub invariant-loop-tree : goal.invariant-loop-tree
invariant-loop-tree l = record {
  outside : outside (scope_of l.scope) ≡ scope_of l.scope;
  made : l.found ≡ None → (after : Made) → AreMadeBy (scope_of l.scope) (plain_trees (drop l.tree-index l.trees)) (made_of l.gathered) after
      → AreMadeBy (scope_of l.initial.scope) (plain_trees l.trees) (made_of l.initial.gathered) after;
  scope : after_items (scope_of l.scope) (plain_trees (drop l.tree-index l.trees)) ≡ after_items (scope_of l.initial.scope) (plain_trees l.trees);
  found : noted l.found (items_sites (scope_of l.scope) (plain_trees (drop l.tree-index l.trees)))
      ≡ noted l.initial.found (items_sites (scope_of l.initial.scope) (plain_trees l.trees));
}

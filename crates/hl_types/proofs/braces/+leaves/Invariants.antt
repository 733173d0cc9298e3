use Rattle.std.proofs.Common.{◌≡◌, ◌++◌, ◌||◌, drop, map}
use Rattle.std.specs.List.{list_any}
use Rattle.hl_parser.specs.Views.{plain_trees}
use Rattle.hl_rules.specs.DeclarationRules.{leaves_among}
use Rattle.hl_rules.specs.Expressions.{code_of}
use Rattle.hl_rules.specs.Rules.{noted}
use Rattle.hl_rules.specs.Sites.{leaves_sites}
use Rattle.hl_types.specs.Leaves.{is_other_leaf}
use Rattle.hl_values.specs.ScopeViews.{scope_of}
use Rattle.hl_values.specs.Views.{plain_code_if}
use Rattle.hl_types.proofs.braces.+leaves.Given as goal

abbrev pub invariant-note_leaves-loop-tree : goal.invariant-note_leaves-loop-tree
invariant-note_leaves-loop-tree l = record {
  codes : map plain_code_if l.leaves.codes.items ++ map (code_of (scope_of l.scope)) (leaves_among (plain_trees (drop l.tree-index l.tree-items)))
      ≡ map plain_code_if l.initial.leaves.codes.items ++ map (code_of (scope_of l.scope)) (leaves_among (plain_trees l.tree-items));
  other : (l.leaves.has_other || list_any (is_other_leaf (scope_of l.scope)) (leaves_among (plain_trees (drop l.tree-index l.tree-items))))
      ≡ (l.initial.leaves.has_other || list_any (is_other_leaf (scope_of l.scope)) (leaves_among (plain_trees l.tree-items)));
  found : noted l.found (leaves_sites (scope_of l.scope) (plain_trees (drop l.tree-index l.tree-items)))
      ≡ noted l.initial.found (leaves_sites (scope_of l.scope) (plain_trees l.tree-items));
}

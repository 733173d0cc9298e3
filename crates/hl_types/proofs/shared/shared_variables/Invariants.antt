use Rattle.std.proofs.Common.{◌≡◌, ◌++◌, drop, map}
use Rattle.hl_meaning.specs.Views.{plain_variable}
use Rattle.hl_parser.specs.Views.{plain_trees}
use Rattle.hl_rules.specs.Declarations.{after_shared}
use Rattle.hl_rules.specs.Elaboration.{declared_shared}
use Rattle.hl_rules.specs.Rules.{noted}
use Rattle.hl_rules.specs.Sites.{shared_sites}
use Rattle.hl_values.specs.ScopeViews.{scope_of}
use Rattle.hl_values.specs.Views.{plain_type_if}
use Rattle.hl_types.proofs.shared.shared_variables.Given as goal

abbrev pub invariant-loop-tree : goal.invariant-loop-tree
invariant-loop-tree l = record {
  scope : after_shared (plain_type_if l.ty) (scope_of l.scope) (plain_trees (drop l.tree-index l.trees)) ≡ after_shared (plain_type_if l.ty) (scope_of l.initial.scope) (plain_trees l.trees);
  made : map plain_variable l.made ++ declared_shared (plain_type_if l.ty) (scope_of l.scope) (plain_trees (drop l.tree-index l.trees))
      ≡ map plain_variable l.initial.made ++ declared_shared (plain_type_if l.ty) (scope_of l.initial.scope) (plain_trees l.trees);
  found : noted l.found (shared_sites (plain_type_if l.ty) (scope_of l.scope) (plain_trees (drop l.tree-index l.trees)))
      ≡ noted l.initial.found (shared_sites (plain_type_if l.ty) (scope_of l.initial.scope) (plain_trees l.trees));
}

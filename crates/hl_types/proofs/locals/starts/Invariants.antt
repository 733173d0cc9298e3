use Rattle.std.proofs.Common.{◌≡◌, ◌++◌, drop}
use Rattle.hl_parser.specs.Views.{plain_trees}
use Rattle.hl_rules.specs.Declarations.{after_starts}
use Rattle.hl_rules.specs.Elaboration.{starts_variables}
use Rattle.hl_rules.specs.Rules.{noted}
use Rattle.hl_rules.specs.Sites.{starts_sites}
use Rattle.hl_rules.specs.Statements.{appended, starts_code}
use Rattle.hl_values.specs.ScopeChanges.{held_of}
use Rattle.hl_values.specs.ScopeViews.{scope_of}
use Rattle.hl_values.specs.Views.{plain_type_if}
use Rattle.hl_types.specs.Walks.{made_stmts}
use Rattle.hl_types.proofs.locals.starts.Given as goal

abbrev pub invariant-loop-tree : goal.invariant-loop-tree
invariant-loop-tree l = record {
  code : appended (made_stmts l.made) (starts_code (scope_of l.scope) (plain_type_if l.ty) l.is_const (plain_trees (drop l.tree-index l.tree-items))) ≡ starts_code (scope_of l.initial.scope) (plain_type_if l.ty) l.is_const (plain_trees l.tree-items);
  found : noted l.found (starts_sites (scope_of l.scope) (plain_type_if l.ty) l.is_const (plain_trees (drop l.tree-index l.tree-items))) ≡ noted l.initial.found (starts_sites (scope_of l.initial.scope) (plain_type_if l.ty) l.is_const (plain_trees l.tree-items));
  scope : after_starts (plain_type_if l.ty) l.is_const (scope_of l.scope) (plain_trees (drop l.tree-index l.tree-items)) ≡ after_starts (plain_type_if l.ty) l.is_const (scope_of l.initial.scope) (plain_trees l.tree-items);
  variables : (held_of l.scope).variables ++ starts_variables (scope_of l.scope) (plain_type_if l.ty) l.is_const (plain_trees (drop l.tree-index l.tree-items)) ≡ (held_of l.initial.scope).variables ++ starts_variables (scope_of l.initial.scope) (plain_type_if l.ty) l.is_const (plain_trees l.tree-items);
}

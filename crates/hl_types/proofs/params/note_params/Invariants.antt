use Rattle.std.proofs.Common.{◌≡◌, ◌++◌, drop, take, map}
use Rattle.hl_parser.specs.Trees.{no_trees}
use Rattle.hl_parser.specs.Views.{plain_trees}
use Rattle.hl_rules.specs.Declarations.{after_params, params_info}
use Rattle.hl_rules.specs.Elaboration.{param_variables}
use Rattle.hl_rules.specs.Rules.{noted}
use Rattle.hl_rules.specs.Sites.{params_sites}
use Rattle.hl_values.specs.ScopeChanges.{held_of}
use Rattle.hl_values.specs.ScopeViews.{plain_param, scope_of}
use Rattle.hl_types.specs.Semantics.{AreHeld}
use Rattle.hl_types.proofs.params.note_params.Given as goal

abbrev pub invariant-loop-tree : goal.invariant-loop-tree
invariant-loop-tree l = record {
  info : map plain_param l.infos ++ params_info (scope_of l.scope) (plain_trees (drop l.tree-index l.params)) ≡ params_info (scope_of l.initial.scope) (plain_trees l.params);
  scope : after_params (scope_of l.scope) (plain_trees (drop l.tree-index l.params)) ≡ after_params (scope_of l.initial.scope) (plain_trees l.params);
  held : record (held_of l.scope) { variables = (held_of l.scope).variables ++ param_variables (scope_of l.scope) (plain_trees (drop l.tree-index l.params)) }
      ≡ record (held_of l.initial.scope) { variables = (held_of l.initial.scope).variables ++ param_variables (scope_of l.initial.scope) (plain_trees l.params) };
  semantics : AreHeld (scope_of l.scope) (plain_trees (take l.tree-index l.params)) l.before;
  found : noted l.found (params_sites (scope_of l.scope) l.entry (plain_trees (take l.tree-index l.params)) (plain_trees (drop l.tree-index l.params)))
      ≡ noted l.initial.found (params_sites (scope_of l.initial.scope) l.entry no_trees (plain_trees l.params));
}

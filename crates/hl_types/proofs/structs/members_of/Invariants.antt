use Rattle.std.proofs.Common.{◌≡◌, ◌++◌, [], drop, map}
use Rattle.hl_parser.specs.Views.{plain_trees}
use Rattle.hl_rules.specs.Declarations.{members_info}
use Rattle.hl_rules.specs.Rules.{noted}
use Rattle.hl_rules.specs.Sites.{members_sites}
use Rattle.hl_values.specs.ScopeViews.{scope_of}
use Rattle.hl_values.specs.StructTables.{plain_member}
use Rattle.hl_types.proofs.structs.members_of.Given as goal

abbrev pub invariant-loop-tree : goal.invariant-loop-tree
invariant-loop-tree l = record {
  members : map plain_member l.members ++ members_info (scope_of l.scope) (plain_trees (drop l.tree-index l.trees)) ≡ members_info (scope_of l.scope) (plain_trees l.trees);
  found : noted l.found (members_sites (scope_of l.scope) (map plain_member l.members) (plain_trees (drop l.tree-index l.trees)))
      ≡ noted l.initial.found (members_sites (scope_of l.scope) [] (plain_trees l.trees));
}

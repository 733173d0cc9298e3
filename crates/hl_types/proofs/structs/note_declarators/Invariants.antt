use Rattle.std.proofs.Common.{◌≡◌, ◌++◌, drop, map}
use Rattle.hl_parser.specs.Views.{plain_trees}
use Rattle.hl_rules.specs.Declarations.{declarators_info}
use Rattle.hl_rules.specs.Rules.{noted}
use Rattle.hl_rules.specs.Sites.{declarators_sites}
use Rattle.hl_values.specs.ScopeViews.{scope_of}
use Rattle.hl_values.specs.StructTables.{plain_member}
use Rattle.hl_values.specs.Views.{plain_type_if}
use Rattle.hl_types.proofs.structs.note_declarators.Given as goal

abbrev pub invariant-loop-tree : goal.invariant-loop-tree
invariant-loop-tree l = record {
  members : map plain_member l.members ++ declarators_info (scope_of l.scope) (plain_type_if l.ty) (plain_trees (drop l.tree-index l.declarators))
      ≡ map plain_member l.initial.members ++ declarators_info (scope_of l.scope) (plain_type_if l.ty) (plain_trees l.declarators);
  found : noted l.found (declarators_sites (scope_of l.scope) (plain_type_if l.ty) (map plain_member l.members) (plain_trees (drop l.tree-index l.declarators)))
      ≡ noted l.initial.found (declarators_sites (scope_of l.scope) (plain_type_if l.ty) (map plain_member l.initial.members) (plain_trees l.declarators));
}

use Rattle.std.proofs.Common.{◌≡◌, drop}
use Rattle.hl_parser.specs.Views.{plain_trees}
use Rattle.hl_rules.specs.Rules.{noted}
use Rattle.hl_rules.specs.Sites.{arguments_sites}
use Rattle.hl_values.specs.ScopeViews.{scope_of}
use Rattle.hl_types.proofs.attributes.note_arguments.Given as goal

abbrev pub invariant-loop-tree : goal.invariant-loop-tree
invariant-loop-tree l =
    noted l.found (arguments_sites (scope_of l.scope) (plain_trees (drop l.tree-index l.tree-items))) ≡ noted l.initial.found (arguments_sites (scope_of l.scope) (plain_trees l.tree-items))

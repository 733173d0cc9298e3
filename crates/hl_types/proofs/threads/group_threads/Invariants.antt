use Rattle.std.proofs.Common.{◌≡◌, drop}
use Rattle.hl_parser.specs.Views.{plain_trees}
use Rattle.hl_values.specs.ScopeViews.{scope_of}
use Rattle.hl_types.specs.Threads.{group_threads}
use Rattle.hl_types.proofs.threads.group_threads.Given as goal

abbrev pub invariant-loop-tree : goal.invariant-loop-tree
invariant-loop-tree l = group_threads (scope_of l.scope) (plain_trees (drop l.tree-index l.attributes)) ≡ group_threads (scope_of l.scope) (plain_trees l.attributes)

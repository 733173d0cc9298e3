use Rattle.std.proofs.Common.{◌≡◌, drop}
use Rattle.hl_parser.specs.Views.{plain_trees}
use Rattle.hl_rules.specs.DeclarationRules.{has_numthreads}
use Rattle.hl_values.specs.ScopeViews.{scope_of}
use Rattle.hl_types.proofs.threads.has_numthreads.Given as goal

abbrev pub invariant-loop-tree : goal.invariant-loop-tree
invariant-loop-tree l = has_numthreads (scope_of l.scope) (plain_trees (drop l.tree-index l.attributes)) ≡ has_numthreads (scope_of l.scope) (plain_trees l.attributes)

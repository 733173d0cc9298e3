use Rattle.std.proofs.Common.{◌≡◌, ◌++◌, drop, length}
use Rattle.hl_parser.specs.Views.{plain_trees}
use Rattle.hl_rules.specs.Elaboration.{parameters_from}
use Rattle.hl_values.specs.ScopeViews.{scope_of}
use Rattle.hl_types.proofs.params.parameters_of.Given as goal

abbrev pub invariant-loop-tree : goal.invariant-loop-tree
invariant-loop-tree l =
    l.made ++ parameters_from (scope_of l.scope) (length l.made) (plain_trees (drop l.tree-index l.params)) ≡ parameters_from (scope_of l.scope) 0 (plain_trees l.params)

use Rattle.std.proofs.Common.{◌≡◌, drop}
use Rattle.hl_parser.specs.Views.{plain_trees}
use Rattle.hl_rules.specs.DeclarationRules.{one_returns}
use Rattle.hl_values.specs.ScopeViews.{scope_of}
use Rattle.hl_types.proofs.returns.+returning.Given as goal

abbrev pub invariant-one_returns-loop-tree : goal.invariant-one_returns-loop-tree
invariant-one_returns-loop-tree l =
    one_returns (scope_of l.scope).tokens (plain_trees (drop l.tree-index l.tree-items)) ≡ one_returns (scope_of l.scope).tokens (plain_trees l.tree-items)

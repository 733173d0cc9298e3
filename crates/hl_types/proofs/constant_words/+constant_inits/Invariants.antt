use Rattle.std.proofs.Common.{◌≡◌, drop}
use Rattle.hl_parser.specs.Views.{plain_trees}
use Rattle.hl_rules.specs.DeclarationRules.{are_constant_inits}
use Rattle.hl_values.specs.ScopeViews.{scope_of}
use Rattle.hl_types.proofs.constant_words.+constant_inits.Given as goal

abbrev pub invariant-are_constant_inits-loop-tree : goal.invariant-are_constant_inits-loop-tree
invariant-are_constant_inits-loop-tree l =
    are_constant_inits (scope_of l.scope) (plain_trees (drop l.tree-index l.tree-items)) ≡ are_constant_inits (scope_of l.scope) (plain_trees l.tree-items)

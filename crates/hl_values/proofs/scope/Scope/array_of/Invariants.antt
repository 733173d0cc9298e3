use Rattle.std.proofs.Common.{◌≡◌, drop}
use Rattle.hl_parser.specs.Views.{plain_trees}
use Rattle.hl_rules.specs.Constants.{array_of}
use Rattle.hl_values.specs.ScopeViews.{scope_of}
use Rattle.hl_values.specs.Views.{plain_type_if}
use Rattle.hl_values.proofs.scope.Scope.array_of.Given as goal

abbrev pub invariant-loop-at : goal.invariant-loop-at
invariant-loop-at l = array_of (scope_of l.self) (plain_trees (drop l.at l.lengths)) (plain_type_if l.fn.element) ≡ plain_type_if l.ty

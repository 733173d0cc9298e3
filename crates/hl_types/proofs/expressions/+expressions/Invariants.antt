use Rattle.std.proofs.Common.{◌≡◌, ℕ, ◌+◌, ◌*◌, max, drop, Option, None, Some}
use Rattle.hl_parser.specs.declared.tree.Tree.{Tree, size-Tree}
use Rattle.hl_parser.specs.Views.{plain_trees}
use Rattle.hl_rules.specs.Rules.{noted}
use Rattle.hl_rules.specs.Sites.{arguments_sites}
use Rattle.hl_types.proofs.ExpressionWalks.{ArePartTyped}
use Rattle.hl_values.specs.ScopeViews.{scope_of}
use Rattle.hl_types.proofs.expressions.+expressions.Given as goal

abbrev pub size_if : Option Tree → ℕ
size_if None = 0
size_if (Some tree) = size-Tree tree

abbrev pub decreases-expression : goal.decreases-expression
decreases-expression l = 8 * size-Tree l.tree.now

abbrev pub decreases-used : goal.decreases-used
decreases-used l = 8 * size-Tree l.tree.now + 1

abbrev pub decreases-operation : goal.decreases-operation
decreases-operation l = 8 * max (size-Tree l.left.now) (size-Tree l.right.now) + 1

abbrev pub decreases-assignment : goal.decreases-assignment
decreases-assignment l = 8 * max (size-Tree l.left.now) (size-Tree l.right.now) + 1

abbrev pub decreases-conditional : goal.decreases-conditional
decreases-conditional l = 8 * max (size-Tree l.condition.now) (max (size-Tree l.consequent.now) (size-Tree l.alternative.now)) + 1

abbrev pub decreases-primary : goal.decreases-primary
decreases-primary l = 8 * max (size_if l.part.now) (size_if l.list.now) + 2

abbrev pub decreases-called : goal.decreases-called
decreases-called l = 8 * size-Tree l.list.now + 1

abbrev pub decreases-argument_list : goal.decreases-argument_list
decreases-argument_list l = 8 * size-Tree l.list.now

abbrev pub decreases-arguments : goal.decreases-arguments
decreases-arguments l = 8 * goal.size-arguments l + 2

abbrev pub decreases-postfix : goal.decreases-postfix
decreases-postfix l = 8 * max (size-Tree l.operand.now) (size_if l.part.now) + 4

abbrev pub decreases-unless_buffer : goal.decreases-unless_buffer
decreases-unless_buffer l = 8 * size-Tree l.operand.now + 2

abbrev pub decreases-method : goal.decreases-method
decreases-method l = 8 * max (size-Tree l.operand.now) (size-Tree l.list.now) + 3

abbrev pub decreases-indexed : goal.decreases-indexed
decreases-indexed l = 8 * max (size-Tree l.operand.now) (size-Tree l.index.now) + 2

abbrev pub invariant-arguments-loop-tree : goal.invariant-arguments-loop-tree
invariant-arguments-loop-tree l = record {
  typed : ArePartTyped (scope_of l.scope) (plain_trees l.tree-items) (plain_trees (drop l.tree-index l.tree-items)) l.args;
  found : noted l.found (arguments_sites (scope_of l.scope) (plain_trees (drop l.tree-index l.tree-items))) ≡ noted l.initial.found (arguments_sites (scope_of l.scope) (plain_trees l.tree-items));
}

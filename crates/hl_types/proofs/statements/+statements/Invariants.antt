use Rattle.std.proofs.Common.{◌≡◌, ℕ, ◌+◌, ◌*◌, ◌++◌, max, drop, Option, None, Some}
use Rattle.hl_parser.specs.declared.tree.Tree.{Tree, size-Tree}
use Rattle.hl_parser.specs.Views.{plain_trees}
use Rattle.hl_rules.specs.Elaboration.{statements_variables}
use Rattle.hl_rules.specs.Rules.{noted}
use Rattle.hl_rules.specs.Sites.{statements_sites}
use Rattle.hl_rules.specs.Statements.{appended, statements_code}
use Rattle.hl_values.specs.ScopeChanges.{held_of}
use Rattle.hl_values.specs.ScopeViews.{scope_of}
use Rattle.hl_types.specs.Walks.{after_statements, made_stmts}
use Rattle.hl_types.proofs.statements.+statements.Given as goal

abbrev pub size_if : Option Tree → ℕ
size_if None = 0
size_if (Some tree) = size-Tree tree

abbrev pub decreases-statement : goal.decreases-statement
decreases-statement l = 8 * size-Tree l.tree.now

abbrev pub decreases-choice : goal.decreases-choice
decreases-choice l = 8 * max (size-Tree l.consequent.now) (size_if l.alternative.now) + 3

abbrev pub decreases-for_loop : goal.decreases-for_loop
decreases-for_loop l = 8 * size-Tree l.body.now + 2

abbrev pub decreases-while_loop : goal.decreases-while_loop
decreases-while_loop l = 8 * size-Tree l.body.now + 2

abbrev pub decreases-do_loop : goal.decreases-do_loop
decreases-do_loop l = 8 * size-Tree l.body.now + 2

abbrev pub decreases-statement_part : goal.decreases-statement_part
decreases-statement_part l = 8 * size_if l.part.now + 1

abbrev pub decreases-block : goal.decreases-block
decreases-block l = 8 * goal.size-block l + 3

abbrev pub decreases-statements : goal.decreases-statements
decreases-statements l = 8 * goal.size-statements l + 2

abbrev pub decreases-branch : goal.decreases-branch
decreases-branch l = 8 * size-Tree l.tree.now + 1

abbrev pub decreases-branch_if : goal.decreases-branch_if
decreases-branch_if l = 8 * size_if l.tree.now + 2

abbrev pub decreases-loop_body : goal.decreases-loop_body
decreases-loop_body l = 8 * size-Tree l.tree.now + 1

abbrev pub invariant-statements-loop-tree : goal.invariant-statements-loop-tree
invariant-statements-loop-tree l = record {
  code : appended (made_stmts l.made) (statements_code (scope_of l.scope) (plain_trees (drop l.tree-index l.tree-items))) ≡ statements_code (scope_of l.initial.scope) (plain_trees l.tree-items);
  found : noted l.found (statements_sites (scope_of l.scope) (plain_trees (drop l.tree-index l.tree-items))) ≡ noted l.initial.found (statements_sites (scope_of l.initial.scope) (plain_trees l.tree-items));
  scope : after_statements (scope_of l.scope) (plain_trees (drop l.tree-index l.tree-items)) ≡ after_statements (scope_of l.initial.scope) (plain_trees l.tree-items);
  variables : (held_of l.scope).variables ++ statements_variables (scope_of l.scope) (plain_trees (drop l.tree-index l.tree-items)) ≡ (held_of l.initial.scope).variables ++ statements_variables (scope_of l.initial.scope) (plain_trees l.tree-items);
}

use Rattle.std.proofs.Common.{◌≡◌, ◌+◌, ◌-◌, ◌*◌, max, drop, length, option_map, Some, None}
use Rattle.hl_meaning.specs.declared.expression.Arg.{size-Arg}
use Rattle.hl_meaning.specs.declared.expression.Expr.{size-Expr}
use Rattle.hl_meaning.specs.declared.expression.Location.{size-Location}
use Rattle.hl_meaning.specs.declared.expression.PathPart.{size-PathPart}
use Rattle.hl_meaning.specs.declared.expression.Root.{size-Root}
use Rattle.hl_meaning.specs.declared.expression.Target.{size-Target}
use Rattle.hl_meaning.specs.Trees.{do_stmt, while_stmt}
use Rattle.hl_meaning.specs.Views.{plain_args, plain_expr, plain_exprs, plain_location, plain_parts, plain_stmt, plain_stmts}
use Rattle.hl_source.specs.Expressions.{arguments, indexes, step_indexes, values}
use Rattle.hl_source.specs.Statements.{do_turn, does, does_all, for_turn, turns}
use Rattle.hl_interpreter.specs.Operands.{interleaved}
use Rattle.hl_interpreter.specs.Runs.{context_of, state_of}
use Rattle.hl_interpreter.proofs.Meeting.{behind}
use Rattle.hl_source.proofs.Weights.{expr_if, place_if, stmt_if, stmt_weight, stmts_weight, weight_of}
use Rattle.hl_interpreter.proofs.+running.Given as goal

-- ---- expressions

abbrev pub decreases-expressions::evaluate : goal.decreases-expressions::evaluate
decreases-expressions::evaluate l = 16 * (weight_of l.context.now.callees.now + size-Expr l.expr.now)

abbrev pub decreases-expressions::evaluate_binary : goal.decreases-expressions::evaluate_binary
decreases-expressions::evaluate_binary l = 16 * (weight_of l.context.now.callees.now + max (size-Expr l.left.now) (size-Expr l.right.now)) + 1

abbrev pub decreases-expressions::evaluate_choice : goal.decreases-expressions::evaluate_choice
decreases-expressions::evaluate_choice l =
    16 * (weight_of l.context.now.callees.now + max (size-Expr l.cond.now) (max (size-Expr l.consequent.now) (size-Expr l.alternative.now))) + 1

abbrev pub decreases-expressions::call_method : goal.decreases-expressions::call_method
decreases-expressions::call_method l = 16 * (weight_of l.context.now.callees.now + max (size-Expr l.address.now) (expr_if l.value.now)) + 1

abbrev pub decreases-expressions::evaluate_atomic : goal.decreases-expressions::evaluate_atomic
decreases-expressions::evaluate_atomic l =
    16 * (weight_of l.context.now.callees.now + max (size-Target l.target.now) (max (expr_if l.compare.now) (max (size-Expr l.value.now) (place_if l.original.now)))) + 2

abbrev pub decreases-expressions::indexes : goal.decreases-expressions::indexes
decreases-expressions::indexes l = 16 * (weight_of l.context.now.callees.now + size-Location l.place.now)

abbrev pub decreases-expressions::step_index : goal.decreases-expressions::step_index
decreases-expressions::step_index l = 16 * (weight_of l.context.now.callees.now + size-PathPart l.part.now)

abbrev pub decreases-expressions::root_index : goal.decreases-expressions::root_index
decreases-expressions::root_index l = 16 * (weight_of l.context.now.callees.now + size-Root l.root.now)

abbrev pub decreases-expressions::values : goal.decreases-expressions::values
decreases-expressions::values l = 16 * (weight_of l.context.now.callees.now + goal.size-expressions::values l) + 1

abbrev pub decreases-expressions::target_indexes : goal.decreases-expressions::target_indexes
decreases-expressions::target_indexes l = 16 * (weight_of l.context.now.callees.now + size-Target l.target.now)

abbrev pub decreases-expressions::value_if : goal.decreases-expressions::value_if
decreases-expressions::value_if l = 16 * (weight_of l.context.now.callees.now + expr_if l.value.now) + 1

abbrev pub decreases-expressions::indexes_if : goal.decreases-expressions::indexes_if
decreases-expressions::indexes_if l = 16 * (weight_of l.context.now.callees.now + place_if l.place.now) + 1

abbrev pub decreases-calling::arguments : goal.decreases-calling::arguments
decreases-calling::arguments l = 16 * (weight_of l.context.now.callees.now + goal.size-calling::arguments l) + 1

abbrev pub decreases-calling::argument : goal.decreases-calling::argument
decreases-calling::argument l = 16 * (weight_of l.context.now.callees.now + size-Arg l.arg.now)

abbrev pub decreases-calling::call_function : goal.decreases-calling::call_function
decreases-calling::call_function l = 16 * (weight_of l.context.now.callees.now + goal.size-calling::call_function l) + 2

abbrev pub decreases-calling::run_function : goal.decreases-calling::run_function
decreases-calling::run_function l = 16 * weight_of l.functions.now + 1

-- ---- statements

abbrev pub decreases-statements::run_statement : goal.decreases-statements::run_statement
decreases-statements::run_statement l = 16 * (weight_of l.context.now.callees.now + stmt_weight l.stmt.now)

abbrev pub decreases-statements::run_statements : goal.decreases-statements::run_statements
decreases-statements::run_statements l = 16 * (weight_of l.context.now.callees.now + stmts_weight l.stmts.now) + 1

abbrev pub decreases-statements::condition : goal.decreases-statements::condition
decreases-statements::condition l = 16 * (weight_of l.context.now.callees.now + size-Expr l.cond.now) + 1

abbrev pub decreases-statements::condition_if : goal.decreases-statements::condition_if
decreases-statements::condition_if l = 16 * (weight_of l.context.now.callees.now + expr_if l.cond.now) + 2

abbrev pub decreases-statements::compute_if : goal.decreases-statements::compute_if
decreases-statements::compute_if l = 16 * (weight_of l.context.now.callees.now + expr_if l.value.now) + 1

abbrev pub decreases-statements::declare : goal.decreases-statements::declare
decreases-statements::declare l = 16 * (weight_of l.context.now.callees.now + expr_if l.init.now) + 1

abbrev pub decreases-statements::return_value : goal.decreases-statements::return_value
decreases-statements::return_value l = 16 * (weight_of l.context.now.callees.now + expr_if l.value.now) + 1

abbrev pub decreases-statements::run_if : goal.decreases-statements::run_if
decreases-statements::run_if l =
    16 * (weight_of l.context.now.callees.now + (size-Expr l.cond.now + (stmt_weight l.consequent.now + stmt_if l.alternative.now))) + 2

abbrev pub decreases-loops::for_loop : goal.decreases-loops::for_loop
decreases-loops::for_loop l =
    16 * (weight_of l.context.now.callees.now + (stmts_weight l.init.now + (expr_if l.cond.now + (expr_if l.step.now + stmt_weight l.body.now)))) + 5

abbrev pub decreases-loops::for_turns : goal.decreases-loops::for_turns
decreases-loops::for_turns l =
    16 * (weight_of l.context.now.callees.now + (expr_if l.cond.now + (expr_if l.step.now + stmt_weight l.body.now))) + 4

abbrev pub decreases-loops::for_turn : goal.decreases-loops::for_turn
decreases-loops::for_turn l =
    16 * (weight_of l.context.now.callees.now + (expr_if l.cond.now + (expr_if l.step.now + stmt_weight l.body.now))) + 3

abbrev pub decreases-loops::while_loop : goal.decreases-loops::while_loop
decreases-loops::while_loop l = 16 * (weight_of l.context.now.callees.now + (size-Expr l.cond.now + stmt_weight l.body.now)) + 3

abbrev pub decreases-loops::while_turn : goal.decreases-loops::while_turn
decreases-loops::while_turn l = 16 * (weight_of l.context.now.callees.now + (size-Expr l.cond.now + stmt_weight l.body.now)) + 2

abbrev pub decreases-loops::do_loop : goal.decreases-loops::do_loop
decreases-loops::do_loop l = 16 * (weight_of l.context.now.callees.now + (size-Expr l.cond.now + stmt_weight l.body.now)) + 4

abbrev pub decreases-loops::do_turn : goal.decreases-loops::do_turn
decreases-loops::do_turn l = 16 * (weight_of l.context.now.callees.now + (size-Expr l.cond.now + stmt_weight l.body.now)) + 3

abbrev pub decreases-loops::test_condition : goal.decreases-loops::test_condition
decreases-loops::test_condition l = 16 * (weight_of l.context.now.callees.now + size-Expr l.cond.now) + 2

-- ---- loops

abbrev pub invariant-expressions::indexes-loop-part : goal.invariant-expressions::indexes-loop-part
invariant-expressions::indexes-loop-part l =
    indexes (context_of l.context) (plain_location l.place) (state_of l.context.run.now.replies.now l.fn.state) ≡
    behind l.indexes (step_indexes (context_of l.context) (plain_parts (drop l.part-index l.part-items)) (state_of l.context.run.now.replies.now l.state))

abbrev pub invariant-expressions::values-loop-expr : goal.invariant-expressions::values-loop-expr
invariant-expressions::values-loop-expr l =
    values (context_of l.context) (plain_exprs l.exprs) (state_of l.context.run.now.replies.now l.fn.state) ≡
    behind l.values (values (context_of l.context) (plain_exprs (drop l.expr-index l.expr-items)) (state_of l.context.run.now.replies.now l.state))

abbrev pub invariant-calling::arguments-loop-at : goal.invariant-calling::arguments-loop-at
invariant-calling::arguments-loop-at l = record {
  whole : arguments (context_of l.context) (plain_args l.args) l.parameters (state_of l.context.run.now.replies.now l.fn.state) ≡
      behind (interleaved l.indexes l.initial_parameters) (arguments (context_of l.context) (plain_args (drop l.at l.items)) (drop l.at l.parameters) (state_of l.context.run.now.replies.now l.state));
  both : length l.indexes ≡ length l.initial_parameters;
}

abbrev pub invariant-statements::run_statements-loop-stmt : goal.invariant-statements::run_statements-loop-stmt
invariant-statements::run_statements-loop-stmt l =
    does_all (context_of l.context) l.context.run.now.turns (plain_stmts l.stmts) (state_of l.context.run.now.replies.now l.fn.state) ≡
    does_all (context_of l.context) l.context.run.now.turns (plain_stmts (drop l.stmt-index l.stmt-items)) (state_of l.context.run.now.replies.now l.state)

abbrev pub invariant-loops::for_turns-loop-turn : goal.invariant-loops::for_turns-loop-turn
invariant-loops::for_turns-loop-turn l =
    turns l.context.run.now.turns
    (for_turn (context_of l.context) (option_map plain_expr l.cond) (λ s. does (context_of l.context) l.context.run.now.turns (plain_stmt l.body) s) (option_map plain_expr l.step))
    (state_of l.context.run.now.replies.now l.fn.state) ≡
    turns (l.context.run.now.turns - l._turn)
    (for_turn (context_of l.context) (option_map plain_expr l.cond) (λ s. does (context_of l.context) l.context.run.now.turns (plain_stmt l.body) s) (option_map plain_expr l.step))
    (state_of l.context.run.now.replies.now l.state)

abbrev pub invariant-loops::while_loop-loop-turn : goal.invariant-loops::while_loop-loop-turn
invariant-loops::while_loop-loop-turn l =
    does (context_of l.context) l.context.run.now.turns (while_stmt (plain_expr l.cond) (plain_stmt l.body)) (state_of l.context.run.now.replies.now l.fn.state) ≡
    turns (l.context.run.now.turns - l._turn)
    (for_turn (context_of l.context) (Some (plain_expr l.cond)) (λ s. does (context_of l.context) l.context.run.now.turns (plain_stmt l.body) s) None)
    (state_of l.context.run.now.replies.now l.state)

abbrev pub invariant-loops::do_loop-loop-turn : goal.invariant-loops::do_loop-loop-turn
invariant-loops::do_loop-loop-turn l =
    does (context_of l.context) l.context.run.now.turns (do_stmt (plain_stmt l.body) (plain_expr l.cond)) (state_of l.context.run.now.replies.now l.fn.state) ≡
    turns (l.context.run.now.turns - l._turn)
    (do_turn (context_of l.context) (λ s. does (context_of l.context) l.context.run.now.turns (plain_stmt l.body) s) (plain_expr l.cond))
    (state_of l.context.run.now.replies.now l.state)

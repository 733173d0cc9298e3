use Rattle.std.proofs.Common.{◌≡◌, ◌+◌, ◌*◌, ℕ, max, false, List, [], ◌∷◌, drop, map}
use Rattle.hl_meaning.specs.Views.{plain_expr, plain_part, plain_args, plain_stmts}
use Rattle.hl_meaning.specs.declared.expression.Arg.{size-Arg}
use Rattle.hl_meaning.specs.declared.expression.Expr.{size-Expr}
use Rattle.hl_meaning.specs.declared.expression.Form.{size-Form}
use Rattle.hl_meaning.specs.declared.expression.Location.{size-Location}
use Rattle.hl_meaning.specs.declared.expression.PathPart.{size-PathPart}
use Rattle.hl_meaning.specs.declared.expression.Root.{size-Root}
use Rattle.hl_meaning.specs.declared.expression.Target.{size-Target}
use Rattle.hl_inline.proofs.BuildingLemmas.{values_behind}
use Rattle.hl_inline.proofs.LastCallLemmas.{held-part_paths, held-paths}
use Rattle.hl_inline.proofs.WalkLemmas.{em, parts_left}
use Rattle.hl_source.proofs.Weights.{expr_if, place_if, weight_of, stmt_if, stmt_weight, stmts_weight}
use Rattle.hl_inline.specs.Building.{callees_in, instance_in, plain_code, plain_fresh, passed_behind, plain_jumps}
use Rattle.hl_inline.specs.EmittedCode.{emitted_with}
use Rattle.hl_inline.specs.EmittedExpressions.{args_emitters}
use Rattle.hl_inline.specs.EmittedStatements.{emit_stmts}
use Rattle.hl_inline.specs.Emitting.{emit_all}
use Rattle.hl_inline.specs.InlinedCalls.{pass_all}
use Rattle.hl_inline.specs.LastCalls.{path_among}
use Rattle.hl_inline.proofs.+inlining.Given as goal

abbrev pub decreases-emitting::emit_along : goal.decreases-emitting::emit_along
decreases-emitting::emit_along l = 16 * (weight_of l.context.now.functions.now + size-Expr l.expr.now)

abbrev pub decreases-emitting::emit : goal.decreases-emitting::emit
decreases-emitting::emit l = 16 * (weight_of l.context.now.functions.now + size-Expr l.expr.now) + 1

abbrev pub decreases-emitting::emit_known : goal.decreases-emitting::emit_known
decreases-emitting::emit_known l = 16 * (weight_of l.context.now.functions.now + size-Expr l.expr.now) + 2

abbrev pub decreases-emitting::emit_form : goal.decreases-emitting::emit_form
decreases-emitting::emit_form l = 16 * (weight_of l.context.now.functions.now + size-Form l.form.now) + 8

abbrev pub decreases-emitting::emit_operand : goal.decreases-emitting::emit_operand
decreases-emitting::emit_operand l = 16 * (weight_of l.context.now.functions.now + size-Expr l.expr.now) + 3

abbrev pub decreases-emitting::emit_boxed : goal.decreases-emitting::emit_boxed
decreases-emitting::emit_boxed l = 16 * (weight_of l.context.now.functions.now + size-Expr l.expr.now) + 4

abbrev pub decreases-emitting::emit_exprs : goal.decreases-emitting::emit_exprs
decreases-emitting::emit_exprs l = 16 * (weight_of l.context.now.functions.now + goal.size-emitting::emit_exprs l) + 5

abbrev pub decreases-emitting::emit_expr_if : goal.decreases-emitting::emit_expr_if
decreases-emitting::emit_expr_if l = 16 * (weight_of l.context.now.functions.now + expr_if l.value.now) + 5

abbrev pub decreases-emitting::emit_write : goal.decreases-emitting::emit_write
decreases-emitting::emit_write l = 16 * (weight_of l.context.now.functions.now + max (size-Location l.to.now) (size-Expr l.value.now)) + 6

abbrev pub decreases-emitting::emit_binary : goal.decreases-emitting::emit_binary
decreases-emitting::emit_binary l = 16 * (weight_of l.context.now.functions.now + max (size-Expr l.left.now) (size-Expr l.right.now)) + 6

abbrev pub decreases-emitting::emit_choice : goal.decreases-emitting::emit_choice
decreases-emitting::emit_choice l =
    16 * (weight_of l.context.now.functions.now + max (size-Expr l.cond.now) (max (size-Expr l.consequent.now) (size-Expr l.alternative.now))) + 6

abbrev pub decreases-emitting::emit_method : goal.decreases-emitting::emit_method
decreases-emitting::emit_method l = 16 * (weight_of l.context.now.functions.now + max (size-Expr l.address.now) (expr_if l.value.now)) + 6

abbrev pub decreases-emitting::emit_atomic : goal.decreases-emitting::emit_atomic
decreases-emitting::emit_atomic l =
    16 * (weight_of l.context.now.functions.now + max (size-Target l.target.now) (max (expr_if l.compare.now) (max (size-Expr l.value.now) (place_if l.original.now)))) + 6

abbrev pub decreases-places::emit_place_along : goal.decreases-places::emit_place_along
decreases-places::emit_place_along l = 16 * (weight_of l.context.now.functions.now + size-Location l.place.now)

abbrev pub decreases-places::emit_place : goal.decreases-places::emit_place
decreases-places::emit_place l = 16 * (weight_of l.context.now.functions.now + size-Location l.place.now) + 1

abbrev pub decreases-places::emit_operand_place : goal.decreases-places::emit_operand_place
decreases-places::emit_operand_place l = 16 * (weight_of l.context.now.functions.now + size-Location l.place.now) + 2

abbrev pub decreases-places::emit_root : goal.decreases-places::emit_root
decreases-places::emit_root l = 16 * (weight_of l.context.now.functions.now + size-Root l.root.now)

abbrev pub decreases-places::emit_parts : goal.decreases-places::emit_parts
decreases-places::emit_parts l = 16 * (weight_of l.context.now.functions.now + goal.size-places::emit_parts l) + 3

abbrev pub decreases-places::emit_part : goal.decreases-places::emit_part
decreases-places::emit_part l = 16 * (weight_of l.context.now.functions.now + size-PathPart l.part.now)

abbrev pub decreases-places::emit_place_if : goal.decreases-places::emit_place_if
decreases-places::emit_place_if l = 16 * (weight_of l.context.now.functions.now + place_if l.place.now) + 3

abbrev pub decreases-places::emit_target : goal.decreases-places::emit_target
decreases-places::emit_target l = 16 * (weight_of l.context.now.functions.now + size-Target l.target.now)

-- ---- loops

abbrev pub invariant-emitting::emit_exprs-loop-index : goal.invariant-emitting::emit_exprs-loop-index
invariant-emitting::emit_exprs-loop-index l =
    l.last_call.numbers.now ≡ path_among (held-paths l.expr-items) →
    values_behind (plain_code l.fn.code) [] (emit_all false (map (em (callees_in l.context) (instance_in l.context)) l.expr-items) (plain_fresh l.fn.fresh)) ≡
    values_behind (plain_code l.code) (map plain_expr l.values) (emit_all false (map (em (callees_in l.context) (instance_in l.context)) (drop l.index l.expr-items)) (plain_fresh l.fresh))

abbrev pub invariant-places::emit_parts-loop-index : goal.invariant-places::emit_parts-loop-index
invariant-places::emit_parts-loop-index l =
    (root : List ℕ) → l.last_call.numbers.now ≡ path_among (root ∷ held-part_paths l.part-items) →
    parts_left (callees_in l.context) (instance_in l.context) l.further (plain_code l.fn.code) [] l.part-items (plain_fresh l.fn.fresh) ≡
    parts_left (callees_in l.context) (instance_in l.context) l.further (plain_code l.code) (map plain_part l.made) (drop l.index l.part-items) (plain_fresh l.fresh)

-- ---- statements and calls

abbrev pub decreases-bodies::emit_stmt : goal.decreases-bodies::emit_stmt
decreases-bodies::emit_stmt l = 16 * (weight_of l.context.now.functions.now + stmt_weight l.stmt.now)

abbrev pub decreases-bodies::stmt_code : goal.decreases-bodies::stmt_code
decreases-bodies::stmt_code l = 16 * (weight_of l.context.now.functions.now + stmt_weight l.stmt.now) + 1

abbrev pub decreases-bodies::stmt_if_code : goal.decreases-bodies::stmt_if_code
decreases-bodies::stmt_if_code l = 16 * (weight_of l.context.now.functions.now + stmt_if l.stmt.now) + 2

abbrev pub decreases-bodies::emit_stmts : goal.decreases-bodies::emit_stmts
decreases-bodies::emit_stmts l = 16 * (weight_of l.context.now.functions.now + stmts_weight l.stmts.now) + 1

abbrev pub decreases-bodies::stmts_code : goal.decreases-bodies::stmts_code
decreases-bodies::stmts_code l = 16 * (weight_of l.context.now.functions.now + stmts_weight l.stmts.now) + 2

abbrev pub decreases-bodies::emit_block : goal.decreases-bodies::emit_block
decreases-bodies::emit_block l = 16 * (weight_of l.context.now.functions.now + stmts_weight l.body.now) + 3

abbrev pub decreases-bodies::emit_set : goal.decreases-bodies::emit_set
decreases-bodies::emit_set l = 16 * (weight_of l.context.now.functions.now + size-Expr l.value.now) + 2

abbrev pub decreases-bodies::emit_local : goal.decreases-bodies::emit_local
decreases-bodies::emit_local l = 16 * (weight_of l.context.now.functions.now + expr_if l.init.now) + 3

abbrev pub decreases-bodies::emit_return : goal.decreases-bodies::emit_return
decreases-bodies::emit_return l = 16 * (weight_of l.context.now.functions.now + expr_if l.value.now) + 3

abbrev pub decreases-bodies::emit_run : goal.decreases-bodies::emit_run
decreases-bodies::emit_run l = 16 * (weight_of l.context.now.functions.now + size-Expr l.value.now) + 2

abbrev pub decreases-bodies::emit_run_if : goal.decreases-bodies::emit_run_if
decreases-bodies::emit_run_if l = 16 * (weight_of l.context.now.functions.now + expr_if l.value.now) + 3

abbrev pub decreases-bodies::emit_test : goal.decreases-bodies::emit_test
decreases-bodies::emit_test l = 16 * (weight_of l.context.now.functions.now + size-Expr l.cond.now) + 2

abbrev pub decreases-bodies::emit_test_if : goal.decreases-bodies::emit_test_if
decreases-bodies::emit_test_if l = 16 * (weight_of l.context.now.functions.now + expr_if l.cond.now) + 3

abbrev pub decreases-bodies::emit_body : goal.decreases-bodies::emit_body
decreases-bodies::emit_body l = 16 * (weight_of l.context.now.functions.now + stmt_weight l.body.now) + 2

abbrev pub decreases-bodies::emit_branches : goal.decreases-bodies::emit_branches
decreases-bodies::emit_branches l = 16 * (weight_of l.context.now.functions.now + (stmt_weight l.consequent.now + stmt_if l.alternative.now)) + 3

abbrev pub decreases-bodies::emit_if : goal.decreases-bodies::emit_if
decreases-bodies::emit_if l = 16 * (weight_of l.context.now.functions.now + (size-Expr l.cond.now + (stmt_weight l.consequent.now + stmt_if l.alternative.now))) + 4

abbrev pub decreases-bodies::for_turn_code : goal.decreases-bodies::for_turn_code
decreases-bodies::for_turn_code l = 16 * (weight_of l.context.now.functions.now + (expr_if l.cond.now + (expr_if l.step.now + stmt_weight l.body.now))) + 4

abbrev pub decreases-bodies::emit_turns : goal.decreases-bodies::emit_turns
decreases-bodies::emit_turns l = 16 * (weight_of l.context.now.functions.now + (expr_if l.cond.now + (expr_if l.step.now + stmt_weight l.body.now))) + 5

abbrev pub decreases-bodies::for_block_code : goal.decreases-bodies::for_block_code
decreases-bodies::for_block_code l = 16 * (weight_of l.context.now.functions.now + (stmts_weight l.init.now + (expr_if l.cond.now + (expr_if l.step.now + stmt_weight l.body.now)))) + 6

abbrev pub decreases-bodies::emit_for : goal.decreases-bodies::emit_for
decreases-bodies::emit_for l = 16 * (weight_of l.context.now.functions.now + (stmts_weight l.init.now + (expr_if l.cond.now + (expr_if l.step.now + stmt_weight l.body.now)))) + 7

abbrev pub decreases-bodies::while_turn_code : goal.decreases-bodies::while_turn_code
decreases-bodies::while_turn_code l = 16 * (weight_of l.context.now.functions.now + (size-Expr l.cond.now + stmt_weight l.body.now)) + 3

abbrev pub decreases-bodies::do_turn_code : goal.decreases-bodies::do_turn_code
decreases-bodies::do_turn_code l = 16 * (weight_of l.context.now.functions.now + (size-Expr l.cond.now + stmt_weight l.body.now)) + 3

abbrev pub decreases-bodies::emit_while : goal.decreases-bodies::emit_while
decreases-bodies::emit_while l = 16 * (weight_of l.context.now.functions.now + (size-Expr l.cond.now + stmt_weight l.body.now)) + 4

abbrev pub decreases-bodies::emit_do : goal.decreases-bodies::emit_do
decreases-bodies::emit_do l = 16 * (weight_of l.context.now.functions.now + (size-Expr l.cond.now + stmt_weight l.body.now)) + 4

abbrev pub decreases-bodies::emit_function : goal.decreases-bodies::emit_function
decreases-bodies::emit_function l = 16 * (weight_of l.context.now.functions.now + stmts_weight l.function.now.body) + 2

abbrev pub decreases-bodies::function_code : goal.decreases-bodies::function_code
decreases-bodies::function_code l = 16 * (weight_of l.context.now.functions.now + stmts_weight l.function.now.body) + 3

abbrev pub decreases-calling::emit_named_body : goal.decreases-calling::emit_named_body
decreases-calling::emit_named_body l = 16 * (weight_of l.inner.now.functions.now + stmts_weight l.callee.now.body) + 4

abbrev pub decreases-calling::emit_body_before : goal.decreases-calling::emit_body_before
decreases-calling::emit_body_before l = 16 * (weight_of l.inner.now.functions.now + stmts_weight l.callee.now.body) + 5

abbrev pub decreases-calling::pass : goal.decreases-calling::pass
decreases-calling::pass l = 16 * (weight_of l.context.now.functions.now + size-Arg l.arg.now) + 1

abbrev pub decreases-calling::pass_all : goal.decreases-calling::pass_all
decreases-calling::pass_all l = 16 * (weight_of l.context.now.functions.now + goal.size-calling::pass_all l) + 2

abbrev pub decreases-calling::passed : goal.decreases-calling::passed
decreases-calling::passed l = 16 * (weight_of l.context.now.functions.now + goal.size-calling::passed l) + 3

abbrev pub decreases-calling::emit_call : goal.decreases-calling::emit_call
decreases-calling::emit_call l = 16 * (weight_of l.context.now.functions.now + goal.size-calling::emit_call l) + 7

abbrev pub decreases-calling::emit_around : goal.decreases-calling::emit_around
decreases-calling::emit_around l =
    max (16 * (weight_of l.context.now.functions.now + goal.size-calling::emit_around l)) (16 * (weight_of l.inner.now.functions.now + stmts_weight l.callee.now.body)) + 6

abbrev pub invariant-bodies::emit_stmts-loop-stmt : goal.invariant-bodies::emit_stmts-loop-stmt
invariant-bodies::emit_stmts-loop-stmt l =
    emitted_with (plain_code l.fn.code) (emit_stmts (callees_in l.context) (instance_in l.context) (plain_jumps l.jumps) (plain_stmts l.stmts) (plain_fresh l.fn.fresh)) ≡
    emitted_with (plain_code l.code) (emit_stmts (callees_in l.context) (instance_in l.context) (plain_jumps l.jumps) (plain_stmts (drop l.stmt-index l.stmt-items)) (plain_fresh l.fresh))

abbrev pub invariant-calling::pass_all-loop-index : goal.invariant-calling::pass_all-loop-index
invariant-calling::pass_all-loop-index l =
    passed_behind (plain_code l.fn.code) (plain_code l.fn.copies) (pass_all (instance_in l.context) l.at l.number (args_emitters (callees_in l.context) (instance_in l.context) (plain_args l.args)) l.parameters (plain_fresh l.fn.fresh)) ≡
    passed_behind (plain_code l.code) (plain_code l.copies) (pass_all (instance_in l.context) l.at (l.number + l.index) (args_emitters (callees_in l.context) (instance_in l.context) (plain_args (drop l.index l.args))) (drop l.index l.parameters) (plain_fresh l.fresh))

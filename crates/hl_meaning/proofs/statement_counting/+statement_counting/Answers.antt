use Rattle.std.proofs.Common.{◌∙◌, ◌<◌, refl, sym, ap, length, option_map, arith, rules}
use Rattle.std.proofs.lemmas.List.{take_all}
use Rattle.hl_meaning.specs.Sums.{both, expr_option_sums, expr_sums, stmt_if_sums, stmt_sums, stmts_sums, stop_all}
use Rattle.hl_meaning.specs.Views.{plain_expr, plain_maybe_stmt, plain_stmt, plain_stmts}
use Rattle.hl_meaning.specs.Counters.{counted_by}
use Rattle.hl_meaning.proofs.Plain.{plain_stmt-Block, plain_stmt-Break, plain_stmt-Continue, plain_stmt-Do, plain_stmt-For, plain_stmt-If, plain_stmt-Local, plain_stmt-Return, plain_stmt-Run, plain_stmt-While}
use Rattle.hl_meaning.proofs.SumLemmas.{all_sums, both_of, branch_of, node_of}
use Rattle.hl_meaning.proofs.ListSums.{all_sums-more, stmts_sums-all}
use Rattle.hl_meaning.proofs.statement_counting.+statement_counting.Goals as goal

pub stmt_sums-returns-in-Block : goal.stmt_sums-returns-in-Block
stmt_sums-returns-in-Block t c =
    let k = counted_by c.args.counter.now in
    node_of 1 c.node.result c.stmts_sums.result (stmts_sums k (plain_stmts c.in-Block.body)) c.node.ensures c.stmts_sums.ensures ∙
    sym (ap (λ f. stop_all (stmt_sums k f)) (ap plain_stmt c.in-Block.is ∙ plain_stmt-Block _))

pub stmt_sums-returns-in-Local : goal.stmt_sums-returns-in-Local
stmt_sums-returns-in-Local t c =
    let k = counted_by c.args.counter.now in
    node_of 0 c.node-in-Local.result c.option_sums.result (expr_option_sums k (option_map plain_expr c.in-Local.init)) c.node-in-Local.ensures c.option_sums.ensures ∙
    sym (ap (λ f. stop_all (stmt_sums k f)) (ap plain_stmt c.in-Local.is ∙ plain_stmt-Local _ _))

pub stmt_sums-returns-in-Run : goal.stmt_sums-returns-in-Run
stmt_sums-returns-in-Run t c =
    let k = counted_by c.args.counter.now in
    node_of 1 c.node-in-Run.result c.expr_sums.result (expr_sums k (plain_expr c.in-Run.value)) c.node-in-Run.ensures c.expr_sums.ensures ∙
    sym (ap (λ f. stop_all (stmt_sums k f)) (ap plain_stmt c.in-Run.is ∙ plain_stmt-Run _))

pub stmt_sums-returns-in-If : goal.stmt_sums-returns-in-If
stmt_sums-returns-in-If t c =
    let k = counted_by c.args.counter.now in
    branch_of c.branch-both.result c.both.result (both (expr_sums k (plain_expr c.in-If.cond)) (both (stmt_sums k (plain_stmt c.in-If.yes)) (stmt_if_sums k (plain_maybe_stmt c.in-If.no)))) c.branch-both.ensures (both_of c.both.result c.expr_sums-in-If.result c.both-branches.result (expr_sums k (plain_expr c.in-If.cond)) (both (stmt_sums k (plain_stmt c.in-If.yes)) (stmt_if_sums k (plain_maybe_stmt c.in-If.no))) c.both.ensures c.expr_sums-in-If.ensures (both_of c.both-branches.result c.stmt_sums.result c.stmt_if_sums.result (stmt_sums k (plain_stmt c.in-If.yes)) (stmt_if_sums k (plain_maybe_stmt c.in-If.no)) c.both-branches.ensures (c.stmt_sums.ensures ∙ ap (λ e. stop_all (stmt_sums k (plain_stmt e))) c.get.ensures) c.stmt_if_sums.ensures)) ∙
    sym (ap (λ f. stop_all (stmt_sums k f)) (ap plain_stmt c.in-If.is ∙ plain_stmt-If _ _ _))

pub stmt_sums-returns-in-For : goal.stmt_sums-returns-in-For
stmt_sums-returns-in-For t c =
    let k = counted_by c.args.counter.now in
    branch_of c.branch-both-in-For.result c.both-in-For.result (both (stmts_sums k (plain_stmts c.in-For.init)) (both (expr_option_sums k (option_map plain_expr c.in-For.cond)) (both (expr_option_sums k (option_map plain_expr c.in-For.step)) (stmt_sums k (plain_stmt c.in-For.body))))) c.branch-both-in-For.ensures (both_of c.both-in-For.result c.stmts_sums-in-For.result c.both-turns.result (stmts_sums k (plain_stmts c.in-For.init)) (both (expr_option_sums k (option_map plain_expr c.in-For.cond)) (both (expr_option_sums k (option_map plain_expr c.in-For.step)) (stmt_sums k (plain_stmt c.in-For.body)))) c.both-in-For.ensures c.stmts_sums-in-For.ensures (both_of c.both-turns.result c.option_sums-in-For-2.result c.both-turn.result (expr_option_sums k (option_map plain_expr c.in-For.cond)) (both (expr_option_sums k (option_map plain_expr c.in-For.step)) (stmt_sums k (plain_stmt c.in-For.body))) c.both-turns.ensures c.option_sums-in-For-2.ensures (both_of c.both-turn.result c.option_sums-in-For.result c.stmt_sums-in-For.result (expr_option_sums k (option_map plain_expr c.in-For.step)) (stmt_sums k (plain_stmt c.in-For.body)) c.both-turn.ensures c.option_sums-in-For.ensures (c.stmt_sums-in-For.ensures ∙ ap (λ e. stop_all (stmt_sums k (plain_stmt e))) c.get-in-For.ensures)))) ∙
    sym (ap (λ f. stop_all (stmt_sums k f)) (ap plain_stmt c.in-For.is ∙ plain_stmt-For _ _ _ _))

pub stmt_sums-returns-in-While : goal.stmt_sums-returns-in-While
stmt_sums-returns-in-While t c =
    let k = counted_by c.args.counter.now in
    branch_of c.branch-both-in-While.result c.both-in-While.result (both (expr_sums k (plain_expr c.in-While.cond)) (stmt_sums k (plain_stmt c.in-While.body))) c.branch-both-in-While.ensures (both_of c.both-in-While.result c.expr_sums-in-While.result c.stmt_sums-in-While.result (expr_sums k (plain_expr c.in-While.cond)) (stmt_sums k (plain_stmt c.in-While.body)) c.both-in-While.ensures c.expr_sums-in-While.ensures (c.stmt_sums-in-While.ensures ∙ ap (λ e. stop_all (stmt_sums k (plain_stmt e))) c.get-in-While.ensures)) ∙
    sym (ap (λ f. stop_all (stmt_sums k f)) (ap plain_stmt c.in-While.is ∙ plain_stmt-While _ _))

pub stmt_sums-returns-in-Do : goal.stmt_sums-returns-in-Do
stmt_sums-returns-in-Do t c =
    let k = counted_by c.args.counter.now in
    branch_of c.branch-both-in-Do.result c.both-in-Do.result (both (stmt_sums k (plain_stmt c.in-Do.body)) (expr_sums k (plain_expr c.in-Do.cond))) c.branch-both-in-Do.ensures (both_of c.both-in-Do.result c.stmt_sums-in-Do.result c.expr_sums-in-Do.result (stmt_sums k (plain_stmt c.in-Do.body)) (expr_sums k (plain_expr c.in-Do.cond)) c.both-in-Do.ensures (c.stmt_sums-in-Do.ensures ∙ ap (λ e. stop_all (stmt_sums k (plain_stmt e))) c.get-in-Do.ensures) c.expr_sums-in-Do.ensures) ∙
    sym (ap (λ f. stop_all (stmt_sums k f)) (ap plain_stmt c.in-Do.is ∙ plain_stmt-Do _ _))

pub stmt_sums-returns-in-Break : goal.stmt_sums-returns-in-Break
stmt_sums-returns-in-Break t c =
    let k = counted_by c.args.counter.now in
    c.branch.ensures ∙
    sym (ap (λ f. stop_all (stmt_sums k f)) (ap plain_stmt c.in-Break.is ∙ plain_stmt-Break))

pub stmt_sums-returns-in-Continue : goal.stmt_sums-returns-in-Continue
stmt_sums-returns-in-Continue t c =
    let k = counted_by c.args.counter.now in
    c.branch-in-Continue.ensures ∙
    sym (ap (λ f. stop_all (stmt_sums k f)) (ap plain_stmt c.in-Continue.is ∙ plain_stmt-Continue))

pub stmt_sums-returns-in-Return : goal.stmt_sums-returns-in-Return
stmt_sums-returns-in-Return t c =
    let k = counted_by c.args.counter.now in
    branch_of c.branch-option_sums.result c.option_sums-in-Return.result (expr_option_sums k (option_map plain_expr c.in-Return.value)) c.branch-option_sums.ensures c.option_sums-in-Return.ensures ∙
    sym (ap (λ f. stop_all (stmt_sums k f)) (ap plain_stmt c.in-Return.is ∙ plain_stmt-Return _))

pub stmts_sums-loop-stmt-init : goal.stmts_sums-loop-stmt-init
stmts_sums-loop-stmt-init t c = refl

pub stmts_sums-loop-stmt-preserved : goal.stmts_sums-loop-stmt-preserved
stmts_sums-loop-stmt-preserved t c =
    let k = counted_by c.args.counter.now in
    let xs = c.as_slice-stmt-items.result.now in
    let within : c.loop-stmt.stmt-index < length xs = search rules in
    all_sums-more (λ x. stmt_sums k (plain_stmt x)) xs c.loop-stmt.stmt-index c.stmt-item.result c.loop-stmt.sums c.stmt_sums.result c.both-sums.result within c.stmt-item.is c.loop-stmt.invariant c.stmt_sums.ensures c.both-sums.ensures

pub stmts_sums-returns : goal.stmts_sums-returns
stmts_sums-returns t c =
    let k = counted_by c.args.counter.now in
    let xs = c.as_slice-stmt-items.result.now in
    c.loop-stmt.invariant ∙ (ap (λ ys. stop_all (all_sums (λ x. stmt_sums k (plain_stmt x)) ys)) (take_all c.loop-stmt.stmt-index xs (omega arith) ∙ c.as_slice-stmt-items.ensures) ∙
    ap stop_all (sym (stmts_sums-all k c.args.stmts.now)))

use Rattle.std.proofs.Common.{◌≡◌, take}
use Rattle.hl_meaning.specs.Sums.{arg_sums, expr_sums, part_sums, step, stop_all}
use Rattle.hl_meaning.specs.Views.{plain_arg, plain_expr, plain_part}
use Rattle.hl_meaning.specs.Counters.{counted_by}
use Rattle.hl_meaning.proofs.SumLemmas.{all_sums}
use Rattle.hl_meaning.proofs.counting.+counting.Given as goal

abbrev pub invariant-args_sums-loop-arg : goal.invariant-args_sums-loop-arg
invariant-args_sums-loop-arg l = l.sums ≡ stop_all (all_sums (λ a. arg_sums (counted_by l.counter) (plain_arg a)) (take l.arg-index l.arg-items))

abbrev pub invariant-exprs_sums-loop-expr : goal.invariant-exprs_sums-loop-expr
invariant-exprs_sums-loop-expr l = l.sums ≡ stop_all (all_sums (λ e. expr_sums (counted_by l.counter) (plain_expr e)) (take l.expr-index l.expr-items))

abbrev pub invariant-indexes_sums-loop-part : goal.invariant-indexes_sums-loop-part
invariant-indexes_sums-loop-part l = l.sums ≡ stop_all (all_sums (λ p. part_sums (counted_by l.counter) (plain_part p)) (take l.part-index l.part-items))

abbrev pub invariant-parts_sums-loop-part : goal.invariant-parts_sums-loop-part
invariant-parts_sums-loop-part l = l.sums ≡ stop_all (all_sums (λ p. step 1 (part_sums (counted_by l.counter) (plain_part p))) (take l.part-index l.part-items))

use Rattle.std.proofs.Common.{◌≡◌, take}
use Rattle.hl_meaning.specs.Sums.{stmt_sums, stop_all}
use Rattle.hl_meaning.specs.Views.{plain_stmt}
use Rattle.hl_meaning.specs.Counters.{counted_by}
use Rattle.hl_meaning.proofs.SumLemmas.{all_sums}
use Rattle.hl_meaning.proofs.statement_counting.+statement_counting.Given as goal

abbrev pub invariant-stmts_sums-loop-stmt : goal.invariant-stmts_sums-loop-stmt
invariant-stmts_sums-loop-stmt l = l.sums ≡ stop_all (all_sums (λ s. stmt_sums (counted_by l.counter) (plain_stmt s)) (take l.stmt-index l.stmt-items))

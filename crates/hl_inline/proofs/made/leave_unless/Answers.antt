use Rattle.std.proofs.Common.{◌∙◌, Some, ap}
use Rattle.hl_meaning.specs.Views.{plain_expr}
use Rattle.hl_inline.specs.FlatTrees.{flat_block, flat_if, no_flat_stmts, some_flat_stmt}
use Rattle.hl_inline.specs.FlatViews.{plain_flat_stmt, plain_flat_stmts}
use Rattle.hl_inline.proofs.FlatPlain.{plain_flat_stmt-Block, plain_flat_stmt-If, plain_flat_stmt-Leave}
use Rattle.hl_inline.proofs.made.leave_unless.Goals as goal

pub returns : goal.returns
returns c =
    let cond = plain_expr c.args.cond in
    plain_flat_stmt-If c.args.cond c.in_ok-yes.yes (Some c.in_ok-no.no) ∙
    (ap (λ s. flat_if cond s (some_flat_stmt (plain_flat_stmt c.in_ok-no.no))) (ap plain_flat_stmt c.in_ok-yes.ensures ∙ (plain_flat_stmt-Block c.new.result ∙ ap (λ l. flat_block (plain_flat_stmts l)) c.new.ensures)) ∙
    ap (λ s. flat_if cond (flat_block no_flat_stmts) (some_flat_stmt s)) (ap plain_flat_stmt c.in_ok-no.ensures ∙ plain_flat_stmt-Leave c.args.name))

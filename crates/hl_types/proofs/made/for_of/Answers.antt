use Rattle.hl_types.specs.Walks.{made_expr_if, made_stmts}
use Rattle.hl_rules.specs.Statements.{for_code}
use Rattle.hl_types.proofs.MadeForms.{for_parts}
use Rattle.hl_types.proofs.TypedForms.{made-ok}
use Rattle.hl_types.proofs.made.for_of.Goals as goal

pub returns : goal.returns
returns c =
    let step = made_expr_if c.args.step in
    let body = made_stmts c.args.body in
    made-ok c.for_with.result made_stmts _ (for_code (made_stmts c.args.init) (made_expr_if c.args.cond) step body) c.for_with.ensures
    (for_parts c.args.init c.args.cond c.in-Some.init c.in-Some-cond.cond step body c.in-Some.is c.in-Some-cond.is)

use Rattle.std.proofs.Common.{ap, option_map}
use Rattle.hl_meaning.specs.Trees.{run_stmt}
use Rattle.hl_parser.specs.Views.{plain_of}
use Rattle.hl_rules.specs.Expressions.{value_code}
use Rattle.hl_rules.specs.Statements.{one_stmt}
use Rattle.hl_values.specs.ScopeViews.{scope_of}
use Rattle.hl_types.specs.Walks.{made_expr, made_stmts}
use Rattle.hl_types.proofs.TypedForms.{made-ok, whenever}
use Rattle.hl_types.proofs.conditions.run_statement.Goals as goal

pub returns : goal.returns
returns c =
    let code = value_code (scope_of c.args.scope.now) (plain_of c.args.tree.now) in
    record {
      code =
          made-ok c.run_of.result made_stmts (option_map (λ value. one_stmt (run_stmt value)) (made_expr c.in_ok-value.value)) (option_map (λ value. one_stmt (run_stmt value)) code)
          c.run_of.ensures (ap (λ e. option_map (λ value. one_stmt (run_stmt value)) e) c.in_ok-value.ensures.code);
      found = whenever c.run_of.result c.in_ok-value.ensures.found;
    }

use Rattle.std.proofs.Common.{◌∙◌, sym, ap, Some}
use Rattle.hl_parser.specs.declared.tree.Tree.{Tree}
use Rattle.hl_parser.specs.Trees.{a_jump, present}
use Rattle.hl_parser.specs.Views.{plain_maybe, plain_of}
use Rattle.hl_rules.specs.Rules.{noted}
use Rattle.hl_rules.specs.Sites.{statement_sites}
use Rattle.hl_rules.specs.Source.{terminal_at}
use Rattle.hl_rules.specs.Statements.{jump_code, one_stmt, return_code, statement_code}
use Rattle.hl_values.specs.ScopeViews.{scope_of}
use Rattle.hl_types.specs.Walks.{made_stmts}
use Rattle.hl_types.proofs.TypedForms.{jump-code, jump-found, made-ok, plain_jump-code, plain_jump-found, same-ok, whenever}
use Rattle.hl_types.proofs.jumps.jump_of.Goals as goal

pub returns-in-Some : goal.returns-in-Some
returns-in-Some c =
    let s = scope_of c.args.scope.now in
    let f = c.args.found.now in
    let at = c.args.at in
    let value = plain_maybe c.args.value.now in
    let got = plain_of c.get.result.now in
    let is = ap plain_maybe c.in-Some.is ∙ ap (λ (t : Tree). present (plain_of t)) (sym c.get.ensures) in
    record {
      code = made-ok c.return_value.result made_stmts (return_code s got) (statement_code s (a_jump at value)) c.return_value.ensures.code (jump-code s at value got is);
      found =
          same-ok c.return_value.result c.return_value.new.found (noted f (statement_sites s (a_jump at (present got)))) (noted f (statement_sites s (a_jump at value)))
          c.return_value.ensures.found (jump-found f s at value got is);
    }

pub returns-in-None : goal.returns-in-None
returns-in-None c =
    let s = scope_of c.args.scope.now in
    let f = c.args.found.now in
    let at = c.args.at in
    let value = plain_maybe c.args.value.now in
    let is = ap plain_maybe c.in-None.is in
    record {
      code = made-ok c.jump.result made_stmts (Some (one_stmt (jump_code (terminal_at s.tokens at)))) (statement_code s (a_jump at value)) c.jump.ensures.code (plain_jump-code s at value is);
      found = whenever c.jump.result (c.jump.ensures.found ∙ plain_jump-found f s at value is);
    }

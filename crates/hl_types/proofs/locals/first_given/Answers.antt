use Rattle.std.proofs.Common.{◌≡◌, ◌∙◌, ◌++◌, sym, ap, Some, append-nil}
use Rattle.std.proofs.lemmas.Result.{on_ok_weaker}
use Rattle.hl_parser.specs.declared.tree.Tree.{Tree}
use Rattle.hl_parser.specs.Trees.{present}
use Rattle.hl_parser.specs.Views.{plain_maybe, plain_of}
use Rattle.hl_rules.specs.Declarations.{after_first}
use Rattle.hl_rules.specs.Elaboration.{first_variables}
use Rattle.hl_rules.specs.Rules.{noted}
use Rattle.hl_rules.specs.Sites.{first_if, first_sites}
use Rattle.hl_rules.specs.Statements.{first_code, first_code_if}
use Rattle.hl_rules.proofs.Noting.{noted-none}
use Rattle.hl_values.specs.ScopeChanges.{held_of}
use Rattle.hl_values.specs.ScopeViews.{scope_of}
use Rattle.hl_types.specs.Walks.{made_stmts}
use Rattle.hl_types.proofs.TypedForms.{made-ok, same-ok}
use Rattle.hl_types.proofs.locals.first_given.Goals as goal

pub returns-in-Some : goal.returns-in-Some
returns-in-Some c =
    let s = scope_of c.args.scope.now in
    let f = c.args.found.now in
    let v = (held_of c.args.scope.now).variables in
    let m = plain_maybe c.args.tree.now in
    let got = plain_of c.get.result.now in
    let is : m ≡ present got = ap plain_maybe c.in-Some.is ∙ ap (λ (t : Tree). present (plain_of t)) (sym c.get.ensures) in
    record {
      code = made-ok c.first.result made_stmts (first_code s got) (first_code_if s m) c.first.ensures.code (sym (ap (first_code_if s) is));
      found = same-ok c.first.result c.first.new.found (noted f (first_sites s got)) (noted f (first_if s m)) c.first.ensures.found (sym (ap (λ x. noted f (first_if s x)) is));
      scope = on_ok_weaker c.first.result (λ e around opens. e around opens ∙ sym (ap (after_first around) is)) c.first.ensures.scope;
      variables =
          same-ok c.first.result (held_of c.first.new.scope).variables (v ++ first_variables s (present got)) (v ++ first_variables s m) c.first.ensures.variables
          (sym (ap (λ x. v ++ first_variables s x) is));
    }

pub returns-in-None : goal.returns-in-None
returns-in-None c =
    let s = scope_of c.args.scope.now in
    let f = c.args.found.now in
    let v = (held_of c.args.scope.now).variables in
    record {
      code = ap (λ l. made_stmts (Some l)) c.new.ensures ∙ sym (ap (λ m. first_code_if s (plain_maybe m)) c.in-None.is);
      found = sym (ap (λ m. noted f (first_if s (plain_maybe m))) c.in-None.is ∙ noted-none f);
      scope = λ around e. e ∙ sym (ap (λ m. after_first around (plain_maybe m)) c.in-None.is);
      variables = sym (ap (λ m. v ++ first_variables s (plain_maybe m)) c.in-None.is ∙ append-nil v);
    }

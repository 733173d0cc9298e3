use Rattle.std.proofs.Common.{◌≡◌, ◌∙◌, ◌++◌, refl, sym, ap, option_map, append-nil}
use Rattle.std.proofs.lemmas.Result.{on_ok_weaker}
use Rattle.hl_parser.specs.Trees.{a_local, present}
use Rattle.hl_parser.specs.Views.{plain_of, plain_trees}
use Rattle.hl_parser.proofs.Plain.{plain-Local}
use Rattle.hl_meaning.specs.Trees.{run_stmt}
use Rattle.hl_rules.specs.Constants.{named_type}
use Rattle.hl_rules.specs.Elaboration.{first_variables, starts_variables}
use Rattle.hl_rules.specs.Expressions.{value_code}
use Rattle.hl_rules.specs.Rules.{noted}
use Rattle.hl_rules.specs.Sites.{expression_sites, first_sites, starts_sites, type_sites}
use Rattle.hl_rules.specs.Statements.{first_code, one_stmt, starts_code}
use Rattle.hl_values.specs.ScopeChanges.{held_of}
use Rattle.hl_values.specs.ScopeViews.{scope_of}
use Rattle.hl_types.specs.Walks.{made_stmts}
use Rattle.hl_types.proofs.LocalNotes.{first-scope}
use Rattle.hl_types.proofs.Shapes.{is_run}
use Rattle.hl_types.proofs.TypedForms.{made-ok, same-ok, whenever}
use Rattle.hl_types.proofs.Walking.{local-is}
use Rattle.hl_types.proofs.locals.first.Goals as goal

pub returns-in-Local : goal.returns-in-Local
returns-in-Local c =
    let s = scope_of c.args.scope.now in
    let f = c.args.found.now in
    let v = (held_of c.args.scope.now).variables in
    let at = c.in-Local.at in
    let constant = c.in-Local.constant in
    let type = plain_of c.in-Local.ty in
    let ts = plain_trees c.in-Local.trees in
    let t = plain_of c.args.tree.now in
    let got = plain_of c.get.result.now in
    let k = c.is_some.result in
    let same : got ≡ type = ap plain_of c.get.ensures in
    let is = c.is_some.ensures in
    let tree : t ≡ a_local at constant type ts = ap plain_of c.in-Local.is ∙ plain-Local at constant c.in-Local.ty c.in-Local.trees in
    record {
      code =
          made-ok c.local.result made_stmts (starts_code s (named_type s got) k ts) (first_code s t) c.local.ensures.code
          (local-is (first_code s) (λ x y. starts_code s (named_type s x) y ts) at constant got type k ts t (λ x. refl) same is tree);
      found =
          same-ok c.local.result c.local.new.found (noted f (type_sites s got ++ starts_sites s (named_type s got) k ts)) (noted f (first_sites s t)) c.local.ensures.found
          (local-is (λ x. noted f (first_sites s x)) (λ x y. noted f (type_sites s x ++ starts_sites s (named_type s x) y ts)) at constant got type k ts t (λ x. refl) same is tree);
      scope = on_ok_weaker c.local.result (λ e around opens. e ∙ first-scope s around at constant got type k ts t opens same is tree) c.local.ensures.scope;
      variables =
          same-ok c.local.result (held_of c.local.new.scope).variables (v ++ starts_variables s (named_type s got) k ts) (v ++ first_variables s (present t)) c.local.ensures.variables
          (local-is (λ x. v ++ first_variables s (present x)) (λ x y. v ++ starts_variables s (named_type s x) y ts) at constant got type k ts t (λ x. refl) same is tree);
    }

pub returns-in_default : goal.returns-in_default
returns-in_default c =
    let s = scope_of c.args.scope.now in
    let f = c.args.found.now in
    let v = (held_of c.args.scope.now).variables in
    let t = plain_of c.args.tree.now in
    let runs = is_run s c.args.tree.now c.in_default.not-Local in
    record {
      code = made-ok c.run_statement.result made_stmts (option_map (λ value. one_stmt (run_stmt value)) (value_code s t)) (first_code s t) c.run_statement.ensures.code (sym runs.code);
      found = same-ok c.run_statement.result c.run_statement.new.found (noted f (expression_sites s t)) (noted f (first_sites s t)) c.run_statement.ensures.found (sym (ap (noted f) runs.found));
      scope = whenever c.run_statement.result (λ around e. e ∙ sym (runs.scope around));
      variables = whenever c.run_statement.result (sym (ap (λ l. v ++ l) runs.variables ∙ append-nil v));
    }

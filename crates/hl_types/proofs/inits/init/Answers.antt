use Rattle.std.proofs.Common.{◌≡◌, ◌∙◌, ◌∷◌, ◌++◌, [], sym, ap, Some, option_and_then}
use Rattle.hl_parser.specs.Trees.{absent, an_init, at_of, present}
use Rattle.hl_parser.specs.Views.{plain_maybe, plain_of, plain_trees}
use Rattle.hl_parser.proofs.Plain.{plain-Init}
use Rattle.hl_rules.specs.Expressions.{value_in}
use Rattle.hl_rules.specs.Parts.{a_conversion, site}
use Rattle.hl_rules.specs.Rules.{noted}
use Rattle.hl_rules.specs.Sites.{init_sites, value_sites}
use Rattle.hl_rules.specs.Statements.{init_code}
use Rattle.hl_rules.specs.Values.{type_in}
use Rattle.hl_rules.proofs.Noting.{noted-none}
use Rattle.hl_values.specs.ScopeViews.{scope_of}
use Rattle.hl_values.specs.Views.{plain_type_if}
use Rattle.hl_types.specs.Walks.{made_expr}
use Rattle.hl_types.proofs.LocalNotes.{no-init, value_init-code, value_init-found}
use Rattle.hl_types.proofs.Shapes.{init_code-none, init_sites-none}
use Rattle.hl_types.proofs.TypedForms.{made-ok, same-ok}
use Rattle.hl_types.proofs.inits.init.Goals as goal

pub returns-in-Some : goal.returns-in-Some
returns-in-Some c =
    let s = scope_of c.args.scope.now in
    let f = c.args.found.now in
    let ty = plain_type_if c.args.ty.now in
    let at = c.in-Init.at in
    let parts = plain_trees c.in-Init.parts in
    let t = plain_of c.args.tree.now in
    let got = plain_of c.get.result.now in
    let tree : t ≡ an_init at (present got) parts =
    ap plain_of c.in-Init.is ∙ (plain-Init at c.in-Init.value c.in-Init.parts ∙ (ap (λ v. an_init at (plain_maybe v) parts) c.in-Some.is ∙ ap (λ v. an_init at (plain_maybe (Some v)) parts) (sym c.get.ensures))) in
    record {
      code =
          made-ok c.value_init.result made_expr (option_and_then (λ own. value_in s own got) ty) (option_and_then (λ own. init_code s own t) ty) c.value_init.ensures.code
          (value_init-code s ty at got parts t tree);
      found =
          same-ok c.value_init.result c.value_init.new.found (noted f (value_sites s got ++ site s (a_conversion (type_in s got) ty (at_of got)) ∷ [])) (noted f (init_sites s ty t)) c.value_init.ensures.found
          (value_init-found f s ty at got parts t tree);
    }

pub returns-in-None : goal.returns-in-None
returns-in-None c =
    let s = scope_of c.args.scope.now in
    let f = c.args.found.now in
    let ty = plain_type_if c.args.ty.now in
    let at = c.in-Init.at in
    let parts = plain_trees c.in-Init.parts in
    let t = plain_of c.args.tree.now in
    let tree : t ≡ an_init at absent parts = ap plain_of c.in-Init.is ∙ (plain-Init at c.in-Init.value c.in-Init.parts ∙ ap (λ v. an_init at (plain_maybe v) parts) c.in-None.is) in
    record {
      code =
          made-ok c.brace_init.result made_expr (option_and_then (λ own. init_code s own (an_init at absent parts)) ty) (option_and_then (λ own. init_code s own t) ty) c.brace_init.ensures.code
          (sym (ap (λ x. option_and_then (λ own. init_code s own x) ty) tree));
      found =
          same-ok c.brace_init.result c.brace_init.new.found (noted f (init_sites s ty (an_init at absent parts))) (noted f (init_sites s ty t)) c.brace_init.ensures.found
          (sym (ap (λ x. noted f (init_sites s ty x)) tree));
    }

pub returns-in_default : goal.returns-in_default
returns-in_default c =
    let s = scope_of c.args.scope.now in
    let f = c.args.found.now in
    let ty = plain_type_if c.args.ty.now in
    record {
      code = sym (no-init s ty (plain_of c.args.tree.now) (λ own. init_code-none s own c.args.tree.now c.in_default.not-Init));
      found = sym (ap (noted f) (init_sites-none s ty c.args.tree.now c.in_default.not-Init) ∙ noted-none f);
    }

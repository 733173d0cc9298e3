use Rattle.std.proofs.Common.{◌∙◌, sym, ap, option_and_then}
use Rattle.hl_parser.specs.Views.{plain_maybe, plain_of}
use Rattle.hl_rules.specs.Rules.{noted}
use Rattle.hl_rules.specs.Sites.{init_if, init_sites}
use Rattle.hl_rules.specs.Statements.{init_code, init_code_if}
use Rattle.hl_rules.proofs.Noting.{noted-none}
use Rattle.hl_values.specs.ScopeViews.{scope_of}
use Rattle.hl_values.specs.Views.{plain_type_if}
use Rattle.hl_types.specs.Walks.{made_expr}
use Rattle.hl_types.proofs.LocalNotes.{given-made}
use Rattle.hl_types.proofs.locals.init_given.Goals as goal

pub returns-in_ok-value-in-Some : goal.returns-in_ok-value-in-Some
returns-in_ok-value-in-Some c =
    let s = scope_of c.args.scope.now in
    let f = c.args.found.now in
    let ty = plain_type_if c.args.ty.now in
    record {
      code =
          c.given.ensures ∙ (given-made s ty (plain_of c.in-Some.tree) (made_expr c.in_ok-value-in-Some.value) (c.in_ok-value-in-Some.ensures.code ∙ ap (λ t. option_and_then (λ own. init_code s own (plain_of t)) ty) c.get.ensures) ∙
          sym (ap (λ m. option_and_then (λ own. init_code_if s own (plain_maybe m)) ty) c.in-Some.is));
      found =
          c.in_ok-value-in-Some.ensures.found ∙ (ap (λ t. noted f (init_sites s ty (plain_of t))) c.get.ensures ∙ sym (ap (λ m. noted f (init_if s ty (plain_maybe m))) c.in-Some.is));
    }

pub returns-in-None : goal.returns-in-None
returns-in-None c =
    let s = scope_of c.args.scope.now in
    let f = c.args.found.now in
    let ty = plain_type_if c.args.ty.now in
    record {
      code = c.left_out.ensures ∙ sym (ap (λ m. option_and_then (λ own. init_code_if s own (plain_maybe m)) ty) c.in-None.is);
      found = sym (ap (λ m. noted f (init_if s ty (plain_maybe m))) c.in-None.is ∙ noted-none f);
    }

use Rattle.std.proofs.Common.{◌∙◌, sym, ap, Some, option_map}
use Rattle.hl_parser.specs.Views.{plain_maybe, plain_of}
use Rattle.hl_rules.specs.Expressions.{value_code}
use Rattle.hl_rules.specs.Rules.{noted}
use Rattle.hl_rules.specs.Sites.{expression_if, expression_sites}
use Rattle.hl_rules.specs.Statements.{value_code_if}
use Rattle.hl_rules.proofs.Noting.{noted-none}
use Rattle.hl_values.specs.ScopeViews.{scope_of}
use Rattle.hl_types.proofs.conditions.step_if.Goals as goal

pub returns-in_ok-value-in-Some : goal.returns-in_ok-value-in-Some
returns-in_ok-value-in-Some c =
    let s = scope_of c.args.scope.now in
    record {
      code =
          c.given.ensures ∙ (ap (λ v. option_map (λ x. Some x) v) (c.in_ok-value-in-Some.ensures.code ∙ ap (λ t. value_code s (plain_of t)) c.get.ensures) ∙
          sym (ap (λ m. value_code_if s (plain_maybe m)) c.in-Some.is));
      found =
          c.in_ok-value-in-Some.ensures.found ∙ (ap (λ t. noted c.args.found.now (expression_sites s (plain_of t))) c.get.ensures ∙
          sym (ap (λ m. noted c.args.found.now (expression_if s (plain_maybe m))) c.in-Some.is));
    }

pub returns-in-None : goal.returns-in-None
returns-in-None c =
    let s = scope_of c.args.scope.now in
    record {
      code = sym (ap (λ m. value_code_if s (plain_maybe m)) c.in-None.is);
      found = sym (ap (λ m. noted c.args.found.now (expression_if s (plain_maybe m))) c.in-None.is ∙ noted-none c.args.found.now);
    }

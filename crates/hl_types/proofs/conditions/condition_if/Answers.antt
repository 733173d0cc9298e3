use Rattle.std.proofs.Common.{◌∙◌, sym, ap, Some, option_map}
use Rattle.hl_parser.specs.Views.{plain_maybe, plain_of}
use Rattle.hl_rules.specs.Rules.{noted}
use Rattle.hl_rules.specs.Sites.{condition_if, condition_sites}
use Rattle.hl_rules.specs.Statements.{condition_code, condition_code_if}
use Rattle.hl_rules.proofs.Noting.{noted-none}
use Rattle.hl_values.specs.ScopeViews.{scope_of}
use Rattle.hl_types.proofs.conditions.condition_if.Goals as goal

pub returns-in_ok-cond-in-Some : goal.returns-in_ok-cond-in-Some
returns-in_ok-cond-in-Some c =
    let s = scope_of c.args.scope.now in
    record {
      code =
          c.given.ensures ∙ (ap (λ v. option_map (λ x. Some x) v) (c.in_ok-cond-in-Some.ensures.code ∙ ap (λ t. condition_code s (plain_of t)) c.get.ensures) ∙
          sym (ap (λ m. condition_code_if s (plain_maybe m)) c.in-Some.is));
      found =
          c.in_ok-cond-in-Some.ensures.found ∙ (ap (λ t. noted c.args.found.now (condition_sites s (plain_of t))) c.get.ensures ∙
          sym (ap (λ m. noted c.args.found.now (condition_if s (plain_maybe m))) c.in-Some.is));
    }

pub returns-in-None : goal.returns-in-None
returns-in-None c =
    let s = scope_of c.args.scope.now in
    record {
      code = sym (ap (λ m. condition_code_if s (plain_maybe m)) c.in-None.is);
      found = sym (ap (λ m. noted c.args.found.now (condition_if s (plain_maybe m))) c.in-None.is ∙ noted-none c.args.found.now);
    }

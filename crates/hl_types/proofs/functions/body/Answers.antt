use Rattle.std.proofs.Common.{◌∙◌, refl, sym, ap, ◌++◌, append-nil}
use Rattle.hl_parser.specs.Views.{plain_of, plain_trees}
use Rattle.hl_parser.proofs.Plain.{plain-Block}
use Rattle.hl_rules.specs.Elaboration.{body_code, body_variables}
use Rattle.hl_rules.specs.Rules.{noted}
use Rattle.hl_rules.specs.Sites.{body_sites}
use Rattle.hl_rules.proofs.Noting.{noted-none}
use Rattle.hl_values.specs.ScopeChanges.{held_of, outside}
use Rattle.hl_values.specs.ScopeViews.{scope_of}
use Rattle.hl_types.proofs.BodyLemmas.{no_body, outside-statements}
use Rattle.hl_types.proofs.functions.body.Goals as goal

pub returns-in_ok-made-in-Block-clause-code : goal.returns-in_ok-made-in-Block-clause-code
returns-in_ok-made-in-Block-clause-code c =
    c.in_ok-made-in-Block.ensures.code ∙ sym (ap (body_code (scope_of c.args.scope.now)) (ap plain_of c.in-Block.is ∙ plain-Block _ _))

pub returns-in_ok-made-in-Block-clause-found : goal.returns-in_ok-made-in-Block-clause-found
returns-in_ok-made-in-Block-clause-found c =
    c.in_ok-made-in-Block.ensures.found ∙ sym (ap (λ t. noted c.args.found.now (body_sites (scope_of c.args.scope.now) t)) (ap plain_of c.in-Block.is ∙ plain-Block _ _))

pub returns-in_ok-made-in-Block-clause-scope : goal.returns-in_ok-made-in-Block-clause-scope
returns-in_ok-made-in-Block-clause-scope c =
    ap outside c.in_ok-made-in-Block.ensures.scope ∙ outside-statements (scope_of c.args.scope.now) (plain_trees c.in-Block.inner)

pub returns-in_ok-made-in-Block-clause-variables : goal.returns-in_ok-made-in-Block-clause-variables
returns-in_ok-made-in-Block-clause-variables c =
    c.in_ok-made-in-Block.ensures.variables ∙
    ap (λ l. (held_of c.args.scope.now).variables ++ l) (sym (ap (body_variables (scope_of c.args.scope.now)) (ap plain_of c.in-Block.is ∙ plain-Block _ _)))

pub returns-in_default : goal.returns-in_default
returns-in_default c =
    let s = scope_of c.args.scope.now in
    let none = no_body s c.args.block.now c.in_default.not-Block in
    record {
      code = sym none.code;
      found = sym (ap (noted c.args.found.now) none.found ∙ noted-none c.args.found.now);
      scope = refl;
      variables = sym (append-nil (held_of c.args.scope.now).variables) ∙ ap (λ l. (held_of c.args.scope.now).variables ++ l) (sym none.variables);
    }

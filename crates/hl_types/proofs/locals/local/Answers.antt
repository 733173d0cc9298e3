use Rattle.std.proofs.Common.{◌∙◌, ◌++◌, ap}
use Rattle.std.proofs.lemmas.Result.{on_ok_weaker}
use Rattle.hl_parser.specs.Views.{plain_of, plain_trees}
use Rattle.hl_rules.specs.Constants.{named_type}
use Rattle.hl_rules.specs.Declarations.{after_starts}
use Rattle.hl_rules.specs.Elaboration.{starts_variables}
use Rattle.hl_rules.specs.Rules.{noted}
use Rattle.hl_rules.specs.Sites.{starts_sites, type_sites}
use Rattle.hl_rules.specs.Statements.{starts_code}
use Rattle.hl_values.specs.ScopeChanges.{held_of}
use Rattle.hl_values.specs.ScopeViews.{scope_of}
use Rattle.hl_values.specs.Views.{plain_type_if}
use Rattle.hl_types.specs.Walks.{made_stmts}
use Rattle.hl_types.proofs.TypedForms.{made-ok, same-ok}
use Rattle.hl_types.proofs.Walking.{noted-both}
use Rattle.hl_types.proofs.locals.local.Goals as goal

pub returns : goal.returns
returns c =
    let s = scope_of c.args.scope.now in
    let f = c.args.found.now in
    let v = (held_of c.args.scope.now).variables in
    let k = c.args.is_const in
    let ts = plain_trees c.args.trees.now in
    let own = c.named_type-own.ensures in
    let type = named_type s (plain_of c.args.ty.now) in
    let r = c.starts.result in
    record {
      code = made-ok r made_stmts (starts_code s (plain_type_if c.named_type-own.result) k ts) (starts_code s type k ts) c.starts.ensures.code (ap (λ t. starts_code s t k ts) own);
      found =
          on_ok_weaker r
          (λ is. noted-both f c.note_type.new.found c.starts.new.found (type_sites s (plain_of c.args.ty.now)) (starts_sites s type k ts) c.note_type.ensures
          (is ∙ ap (λ t. noted c.note_type.new.found (starts_sites s t k ts)) own))
          c.starts.ensures.found;
      scope =
          same-ok r (scope_of c.starts.new.scope) (after_starts (plain_type_if c.named_type-own.result) k s ts) (after_starts type k s ts) c.starts.ensures.scope (ap (λ t. after_starts t k s ts) own);
      variables =
          same-ok r (held_of c.starts.new.scope).variables (v ++ starts_variables s (plain_type_if c.named_type-own.result) k ts) (v ++ starts_variables s type k ts) c.starts.ensures.variables
          (ap (λ t. v ++ starts_variables s t k ts) own);
    }

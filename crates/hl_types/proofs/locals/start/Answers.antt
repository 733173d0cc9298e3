use Rattle.std.proofs.Common.{◌∙◌, ◌∷◌, ◌++◌, [], sym, ap, append-nil}
use Rattle.hl_parser.specs.Views.{plain_maybe, plain_of}
use Rattle.hl_parser.proofs.Plain.{plain-Start}
use Rattle.hl_rules.specs.Constants.{declarator_type}
use Rattle.hl_rules.specs.Declarations.{after_start, with_variable}
use Rattle.hl_rules.specs.Elaboration.{start_variable}
use Rattle.hl_rules.specs.Rules.{noted}
use Rattle.hl_rules.specs.Scopes.{spelled}
use Rattle.hl_rules.specs.Sites.{declarator_sites, start_sites}
use Rattle.hl_rules.specs.Statements.{start_code}
use Rattle.hl_rules.proofs.Noting.{noted-none}
use Rattle.hl_values.specs.ScopeChanges.{held_of, held_variable}
use Rattle.hl_values.specs.ScopeViews.{scope_of}
use Rattle.hl_values.specs.Views.{plain_type_if}
use Rattle.hl_types.specs.Walks.{made_expr_if, made_stmts}
use Rattle.hl_types.proofs.LocalNotes.{start-made, start-noted, variables-are}
use Rattle.hl_types.proofs.Shapes.{no_start}
use Rattle.hl_types.proofs.locals.start.Goals as goal

pub returns-in_ok-declare_variable-in-Start : goal.returns-in_ok-declare_variable-in-Start
returns-in_ok-declare_variable-in-Start c =
    let s = scope_of c.args.scope.now in
    let f = c.args.found.now in
    let ty = plain_type_if c.args.ty.now in
    let v = (held_of c.args.scope.now).variables in
    let name = plain_of c.in-Start.name in
    let own = plain_type_if c.in_ok-own-in-Start.own in
    let tree = ap plain_of c.in-Start.is ∙ plain-Start c.in-Start.at c.in-Start.name c.in-Start.init in
    let is_own = c.in_ok-own-in-Start.ensures.ty ∙ ap (λ t. declarator_type s ty (plain_of t)) c.get.ensures in
    record {
      code =
          start-made s ty own c.in-Start.at name (plain_maybe c.in-Start.init) c.len-number.result (made_expr_if c.in_ok-value-in-Start.value) (made_stmts c.in_ok-made-in-Start.made) is_own (variables-are c.args.scope.now c.len-number.result c.len-number.ensures.value) c.in_ok-value-in-Start.ensures.code c.in_ok-made-in-Start.ensures ∙
          sym (ap (start_code s ty) tree);
      found =
          start-noted s ty own c.in-Start.at name (plain_maybe c.in-Start.init) f c.declarator.new.found c.note_again.new.found c.init_given.new.found is_own
          (c.in_ok-own-in-Start.ensures.found ∙ ap (λ t. noted f (declarator_sites s ty (plain_of t))) c.get.ensures) c.note_again.ensures c.in_ok-value-in-Start.ensures.found ∙
          sym (ap (λ t. noted f (start_sites s ty t)) tree);
      scope =
          c.in_ok-declare_variable-in-Start.ensures.scope ∙ (ap (λ o. with_variable c.in-Start.at o c.args.is_const s) is_own ∙ sym (ap (after_start ty c.args.is_const s) tree));
      variables =
          ap (λ h. h.variables) c.in_ok-declare_variable-in-Start.ensures.held ∙
          (ap (λ o. v ++ held_variable (spelled s c.in-Start.at) o c.in-Start.at ∷ []) is_own ∙ sym (ap (λ t. v ++ start_variable s ty t) tree));
    }

pub returns-in_default : goal.returns-in_default
returns-in_default c =
    let s = scope_of c.args.scope.now in
    let f = c.args.found.now in
    let ty = plain_type_if c.args.ty.now in
    let v = (held_of c.args.scope.now).variables in
    let no_one = no_start s ty c.args.is_const c.args.tree.now c.in_default.not-Start in
    record {
      code = sym no_one.code;
      found = sym (ap (noted f) no_one.found ∙ noted-none f);
      scope = sym no_one.scope;
      variables = sym (ap (λ l. v ++ l) no_one.variables ∙ append-nil v);
    }

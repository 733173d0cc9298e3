use Rattle.std.proofs.Common.{◌≡◌, ◌∙◌, sym, ap, ◌++◌, Option, List, append-nil}
use Rattle.hl_parser.specs.Trees.{at_of}
use Rattle.hl_parser.specs.Views.{plain_of}
use Rattle.hl_meaning.specs.declared.program.Copying.{Copying}
use Rattle.hl_meaning.specs.Programs.{Variable}
use Rattle.hl_meaning.specs.Types.{Ty}
use Rattle.hl_rules.specs.Rules.{noted}
use Rattle.hl_rules.specs.Scopes.{ParamInfo}
use Rattle.hl_rules.specs.Sites.{entry_sites, param_sites}
use Rattle.hl_rules.proofs.Noting.{noted-append}
use Rattle.hl_values.specs.ScopeChanges.{held_of}
use Rattle.hl_values.specs.ScopeViews.{scope_of}
use Rattle.hl_values.specs.Views.{plain_type_if}
use Rattle.hl_types.proofs.ParamLemmas.{entry-noted, is_param, no_param, none-noted, param-after, param-held}
use Rattle.hl_types.proofs.params.param.Goals as goal

abbrev known : Option Ty → Copying → ParamInfo
known ty passed = record { ty = ty; copying = passed }

info-of : (ty ty' : Option Ty) (a b : Copying) → ty ≡ ty' → a ≡ b → known ty a ≡ known ty' b
info-of ty ty' a b e f = ap (λ x. known x a) e ∙ ap (λ x. known ty' x) f

pub returns-in_ok-declare_variable-in-Param-clause-info : goal.returns-in_ok-declare_variable-in-Param-clause-info
returns-in_ok-declare_variable-in-Param-clause-info c =
    let s = scope_of c.args.scope.now in
    let is = is_param s c.args.tree.now _ _ _ _ _ c.get-in-Param.result.now c.get-in-Param-2.result.now _ c.in-Param.is c.get-in-Param.ensures c.get-in-Param-2.ensures in
    info-of _ _ _ _ (c.in_ok-known-in-Param.ensures ∙ (c.in_ok-own-in-Param.ensures.own ∙ sym is.ty)) c.copying_in-copying.ensures

pub returns-in_ok-declare_variable-in-Param-clause-scope : goal.returns-in_ok-declare_variable-in-Param-clause-scope
returns-in_ok-declare_variable-in-Param-clause-scope c =
    let s = scope_of c.args.scope.now in
    let is = is_param s c.args.tree.now _ _ _ _ _ c.get-in-Param.result.now c.get-in-Param-2.result.now _ c.in-Param.is c.get-in-Param.ensures c.get-in-Param-2.ensures in
    let place = c.at-at.ensures ∙ ap (λ x. at_of (plain_of x)) (c.get.ensures ∙ sym c.get-in-Param-2.ensures) in
    c.in_ok-declare_variable-in-Param.ensures.scope ∙
    param-after s (plain_of c.args.tree.now) _ _ _ c.at-at.result (plain_type_if c.in_ok-own-in-Param.own) c.is_some.result is place c.in_ok-own-in-Param.ensures.own c.is_some.ensures

pub returns-in_ok-declare_variable-in-Param-clause-held : goal.returns-in_ok-declare_variable-in-Param-clause-held
returns-in_ok-declare_variable-in-Param-clause-held c =
    let s = scope_of c.args.scope.now in
    let is = is_param s c.args.tree.now _ _ _ _ _ c.get-in-Param.result.now c.get-in-Param-2.result.now _ c.in-Param.is c.get-in-Param.ensures c.get-in-Param-2.ensures in
    let place = c.at-at.ensures ∙ ap (λ x. at_of (plain_of x)) (c.get.ensures ∙ sym c.get-in-Param-2.ensures) in
    c.in_ok-declare_variable-in-Param.ensures.held ∙
    ap {A = List Variable} (λ l. record (held_of c.args.scope.now) { variables = (held_of c.args.scope.now).variables ++ l })
    (param-held s (plain_of c.args.tree.now) _ _ _ c.at-at.result (plain_type_if c.in_ok-own-in-Param.own) is place c.in_ok-own-in-Param.ensures.own)

pub returns-in_ok-declare_variable-in-Param-clause-found : goal.returns-in_ok-declare_variable-in-Param-clause-found
returns-in_ok-declare_variable-in-Param-clause-found c = λ trees are.
    let s = scope_of c.args.scope.now in
    let t = plain_of c.args.tree.now in
    let is = is_param s c.args.tree.now _ _ _ _ _ c.get-in-Param.result.now c.get-in-Param-2.result.now _ c.in-Param.is c.get-in-Param.ensures c.get-in-Param-2.ensures in
    let place = c.at-at.ensures ∙ ap (λ x. at_of (plain_of x)) (c.get.ensures ∙ sym c.get-in-Param-2.ensures) in
    entry-noted s trees t c.args.before c.args.entry _ _ _ c.at-at.result c.note_param_type.new.found _ are c.copying_in-copying.ensures (c.in_ok-own-in-Param.ensures.own ∙ sym is.ty) c.semantic_in-semantic.ensures (place ∙ sym is.name) c.note_entry_param.ensures ∙
    (ap (λ f. noted f (entry_sites s c.args.entry trees t)) (c.in_ok-own-in-Param.ensures.found ∙ ap (noted c.args.found.now) (sym is.found)) ∙
    sym (noted-append c.args.found.now (param_sites s t) (entry_sites s c.args.entry trees t)))

pub returns-in_default : goal.returns-in_default
returns-in_default c =
    let s = scope_of c.args.scope.now in
    let none = no_param s c.args.tree.now c.in_default.not-Param in
    record {
      info = info-of _ _ _ _ (sym none.ty) c.copying_in-copying.ensures;
      scope = sym none.after;
      held = ap {A = List Variable} (λ l. record (held_of c.args.scope.now) { variables = l })
          (sym (append-nil (held_of c.args.scope.now).variables) ∙ ap (λ l. (held_of c.args.scope.now).variables ++ l) (sym none.variables));
      found = λ trees are. none-noted s trees (plain_of c.args.tree.now) c.args.entry c.args.found.now _ none c.note_if.ensures;
    }

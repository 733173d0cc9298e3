use Rattle.std.proofs.Common.{◌≡◌, ◌∙◌, ap, ◌++◌, map}
use Rattle.hl_parser.specs.Views.{plain_of, plain_trees}
use Rattle.hl_rules.specs.Declarations.{after_params, at_params, in_body, params_info, with_function}
use Rattle.hl_rules.specs.Elaboration.{body_variables, param_variables}
use Rattle.hl_rules.specs.Scopes.{spelled}
use Rattle.hl_values.specs.ScopeChanges.{Held, held_of, in_function, inside_of, outside}
use Rattle.hl_values.specs.ScopeViews.{plain_param, scope_of}
use Rattle.hl_values.specs.Views.{plain_type_if}
use Rattle.hl_types.proofs.FunctionLemmas.{definition-made, function-noted, held-variables, outside-body}
use Rattle.hl_types.proofs.FunctionScopes.{body-scope}
use Rattle.hl_types.proofs.functions.function.Goals as goal

pub returns-clause-made : goal.returns-clause-made
returns-clause-made c =
    let s = scope_of c.args.scope.now in
    let result = plain_of c.args.gives.now in
    let params = plain_trees c.args.params.now in
    let block = plain_of c.args.block.now in
    let opened : scope_of c.open_function.new.self ≡ at_params s result = c.in_ok-open_function.ensures.scope ∙ ap (λ r. in_function r s) (c.in_ok-inner.ensures ∙ c.result_type-ty.ensures) in
    let p : scope_of c.note_params.new.scope ≡ after_params (at_params s result) params = c.in_ok-infos.ensures.scope ∙ ap (λ x. after_params x params) opened in
    let infos : map plain_param c.in_ok-infos.infos ≡ params_info (at_params s result) params = c.in_ok-infos.ensures.info ∙ ap (λ x. params_info x params) opened in
    let b : scope_of c.enter_body.new.self ≡ in_body s result c.args.name params =
    c.enter_body.ensures.scope ∙ (ap (inside_of c.in_ok-number.number) c.in_ok-declare_function.ensures.scope ∙
    body-scope s (scope_of c.note_params.new.scope) result c.args.name params (map plain_param c.in_ok-infos.infos) (plain_type_if c.in_ok-known.known) c.in_ok-number.number p infos (c.in_ok-known.ensures ∙ c.result_type-ty.ensures) c.in_ok-number.ensures) in
    let behind : scope_of c.close_function-variables.new.self ≡ with_function s result c.args.name params =
    c.close_function-variables.ensures.scope ∙ (c.in_ok-stmts.ensures.scope ∙ (ap outside b ∙ outside-body s result c.args.name params c.requires)) in
    let bs = body_variables (scope_of c.enter_body.new.self) block in
    let inner = c.in_ok-stmts.ensures.variables ∙ ap {A = Held} (λ h. h.variables ++ bs) (c.enter_body.ensures.held ∙ c.declare_function.ensures.held) in
    definition-made s (scope_of c.enter_body.new.self) result c.args.name params block _ _ _ _ _ _ b
    (c.text_at.ensures ∙ ap (λ x. spelled x c.args.name) behind) c.result_type-ty.ensures c.in_ok-parameters.ensures
    (c.close_function-variables.ensures.variables ∙
    (held-variables (held_of c.args.scope.now) (held_of c.open_function.new.self) (held_of c.note_params.new.scope) (held_of c.body.new.scope) (param_variables (scope_of c.open_function.new.self) params) bs c.in_ok-open_function.ensures.held c.in_ok-infos.ensures.held inner ∙
    ap (λ x. param_variables x params ++ bs) opened))
    c.in_ok-stmts.ensures.code c.in_ok-made.ensures

pub returns-clause-scope : goal.returns-clause-scope
returns-clause-scope c =
    let s = scope_of c.args.scope.now in
    let result = plain_of c.args.gives.now in
    let params = plain_trees c.args.params.now in
    let opened : scope_of c.open_function.new.self ≡ at_params s result = c.in_ok-open_function.ensures.scope ∙ ap (λ r. in_function r s) (c.in_ok-inner.ensures ∙ c.result_type-ty.ensures) in
    let p : scope_of c.note_params.new.scope ≡ after_params (at_params s result) params = c.in_ok-infos.ensures.scope ∙ ap (λ x. after_params x params) opened in
    let infos : map plain_param c.in_ok-infos.infos ≡ params_info (at_params s result) params = c.in_ok-infos.ensures.info ∙ ap (λ x. params_info x params) opened in
    let b : scope_of c.enter_body.new.self ≡ in_body s result c.args.name params =
    c.enter_body.ensures.scope ∙ (ap (inside_of c.in_ok-number.number) c.in_ok-declare_function.ensures.scope ∙
    body-scope s (scope_of c.note_params.new.scope) result c.args.name params (map plain_param c.in_ok-infos.infos) (plain_type_if c.in_ok-known.known) c.in_ok-number.number p infos (c.in_ok-known.ensures ∙ c.result_type-ty.ensures) c.in_ok-number.ensures) in
    c.close_function-variables.ensures.scope ∙ (c.in_ok-stmts.ensures.scope ∙ (ap outside b ∙ outside-body s result c.args.name params c.requires))

pub returns-clause-found : goal.returns-clause-found
returns-clause-found c =
    let s = scope_of c.args.scope.now in
    let result = plain_of c.args.gives.now in
    let params = plain_trees c.args.params.now in
    let block = plain_of c.args.block.now in
    let opened : scope_of c.open_function.new.self ≡ at_params s result = c.in_ok-open_function.ensures.scope ∙ ap (λ r. in_function r s) (c.in_ok-inner.ensures ∙ c.result_type-ty.ensures) in
    let p : scope_of c.note_params.new.scope ≡ after_params (at_params s result) params = c.in_ok-infos.ensures.scope ∙ ap (λ x. after_params x params) opened in
    let infos : map plain_param c.in_ok-infos.infos ≡ params_info (at_params s result) params = c.in_ok-infos.ensures.info ∙ ap (λ x. params_info x params) opened in
    let b : scope_of c.enter_body.new.self ≡ in_body s result c.args.name params =
    c.enter_body.ensures.scope ∙ (ap (inside_of c.in_ok-number.number) c.in_ok-declare_function.ensures.scope ∙
    body-scope s (scope_of c.note_params.new.scope) result c.args.name params (map plain_param c.in_ok-infos.infos) (plain_type_if c.in_ok-known.known) c.in_ok-number.number p infos (c.in_ok-known.ensures ∙ c.result_type-ty.ensures) c.in_ok-number.ensures) in
    function-noted s (scope_of c.note_params.new.scope) (scope_of c.enter_body.new.self) (map plain_param c.as_slice.result.now) (plain_trees c.args.attributes.now) result c.args.name params block c.is_entry-entry.result (scope_of c.open_function.new.self) _ _ _ _ _ _
    opened c.is_entry-entry.ensures p (ap (map plain_param) c.as_slice.ensures.value ∙ infos) b
    c.in_ok-note_function_attributes.ensures c.note_result.ensures c.in_ok-infos.ensures.found c.note_whole.ensures c.in_ok-stmts.ensures.found

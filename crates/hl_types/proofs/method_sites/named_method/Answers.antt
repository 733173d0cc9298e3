use Rattle.std.proofs.Common.{◌∙◌, ap, map, Some}
use Rattle.hl_rules.specs.ExpressionRules.{is_no_method}
use Rattle.hl_rules.specs.Scopes.{spelled}
use Rattle.hl_values.specs.Noted.{noted_if}
use Rattle.hl_values.specs.ScopeViews.{plain_buffer, scope_of}
use Rattle.hl_values.specs.Views.{plain_value}
use Rattle.hl_types.proofs.method_sites.named_method.Goals as goal

pub returns-clause-found : goal.returns-clause-found
returns-clause-found c =
    let buffer = Some (plain_buffer c.args.buffer.now) in
    c.note_if.ensures ∙ ap (λ b. noted_if c.args.found.now 41 b c.args.site.name)
    (c.is_no_method.ensures ∙
    (ap (λ n. is_no_method buffer n (map plain_value c.as_slice.result.now)) c.text_at-name.ensures ∙
    ap (λ l. is_no_method buffer (spelled (scope_of c.args.scope.now) c.args.site.name) (map plain_value l)) c.as_slice.ensures.value))

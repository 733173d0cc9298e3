use Rattle.std.proofs.Common.{◌∙◌, sym, ap, ◌&&◌, map, bytes_eq}
use Rattle.std.specs.List.{list_any}
use Rattle.hl_rules.specs.DeclarationRules.{have_same_types}
use Rattle.hl_values.specs.ScopeViews.{plain_function, plain_param, scope_of}
use Rattle.hl_types.proofs.SignatureLemmas.{same-named}
use Rattle.hl_types.proofs.signatures.is_declared_again.Goals as goal

pub returns : goal.returns
unfolding scope_of
returns c =
    let params = map plain_param c.args.params.now in
    c.any_same.ensures ∙
    (sym (same-named params c.args.scope.now.functions c.text_at.result.now) ∙
    ap (λ name. list_any (λ f. bytes_eq f.name name && have_same_types f.params params) (map plain_function c.args.scope.now.functions)) c.text_at.ensures)

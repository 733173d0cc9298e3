use Rattle.std.proofs.Common.{◌∙◌, ap}
use Rattle.hl_parser.specs.Trees.{at_of}
use Rattle.hl_parser.specs.Views.{plain_of}
use Rattle.hl_rules.specs.Rules.{noted}
use Rattle.hl_rules.specs.Sites.{declarator_sites}
use Rattle.hl_values.specs.ScopeViews.{scope_of}
use Rattle.hl_types.proofs.ParamLemmas.{local-noted, param-noted}
use Rattle.hl_types.proofs.params.note_param_type.Goals as goal

pub returns-clause-found : goal.returns-clause-found
returns-clause-found c =
    let s = scope_of c.args.scope.now in
    let name = plain_of c.args.name.now in
    param-noted s (plain_of c.args.ty.now) name _ c.note_type.new.found c.declarator.new.found _ _ _
    c.note_type.ensures
    (c.in_ok-own.ensures.found ∙ ap (λ x. noted c.note_type.new.found (declarator_sites s x name)) c.named_type-named.ensures)
    c.note_if.ensures
    (local-noted s (at_of name) c.declarator.new.found _ c.text_at.result.now c.at.result c.at-2.result c.is_declared_here.ensures c.text_at.ensures c.at.ensures c.at-2.ensures)

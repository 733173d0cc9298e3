use Rattle.std.proofs.Common.{◌∙◌, sym, ap, None}
use Rattle.hl_rules.specs.Rules.{noted}
use Rattle.hl_rules.specs.Sites.{register_sites}
use Rattle.hl_rules.proofs.Noting.{noted-none}
use Rattle.hl_values.specs.ScopeViews.{scope_of}
use Rattle.hl_types.proofs.BufferLemmas.{register-noted}
use Rattle.hl_types.proofs.buffers.note_register.Goals as goal

pub returns-in-Some : goal.returns-in-Some
returns-in-Some c =
    let s = scope_of c.args.scope.now in
    c.note_if.ensures ∙ (register-noted s c.args.writable c.in-Some.name c.args.found.now c.register_number.result c.is_none.result c.register_number.ensures c.is_none.ensures ∙
    ap (λ r. noted c.args.found.now (register_sites s c.args.writable r None)) (sym c.in-Some.is))

pub returns-in-None : goal.returns-in-None
returns-in-None c =
    sym (noted-none c.args.found.now) ∙ ap (λ r. noted c.args.found.now (register_sites (scope_of c.args.scope.now) c.args.writable r None)) (sym c.in-None.is)

use Rattle.std.proofs.Common.{◌∙◌, sym, ap, is_some}
use Rattle.hl_rules.specs.Found.{breaking, broken_if, gathered}
use Rattle.hl_rules.specs.Scopes.{declared_in, innermost}
use Rattle.hl_rules.proofs.Noting.{noted-local_name}
use Rattle.hl_values.specs.ScopeViews.{scope_of}
use Rattle.hl_types.proofs.locals.note_again.Goals as goal

pub returns : goal.returns
returns c =
    let s = scope_of c.args.scope.now in
    let f = c.args.found.now in
    c.note_if.ensures ∙ (ap (λ b. gathered f (breaking 2 (broken_if b c.args.at))) (c.is_declared_here.ensures ∙ ap (λ n. is_some (declared_in (innermost s) n)) c.text_at.ensures) ∙
    sym (noted-local_name f s c.args.at))

use Rattle.std.proofs.Common.{◌∙◌, sym, ap, length, not}
use Rattle.hl_rules.specs.Found.{breaking, broken_if, gathered}
use Rattle.hl_rules.specs.Scopes.{is_function}
use Rattle.hl_rules.proofs.Noting.{noted-end}
use Rattle.hl_values.specs.ScopeViews.{scope_of}
use Rattle.hl_types.proofs.ScopeParts.{tokens-count}
use Rattle.hl_types.proofs.items.note_end.Goals as goal

pub returns : goal.returns
returns c =
    let s = scope_of c.args.scope.now in
    c.note_if.ensures ∙
    (ap (λ b. gathered c.args.found.now (breaking 13 (broken_if (not b) (length c.args.scope.now.tokens.now)))) c.is_entry_there.ensures ∙
    (ap (λ n. gathered c.args.found.now (breaking 13 (broken_if (not (is_function s s.entry)) n))) (tokens-count c.args.scope.now) ∙
    sym (noted-end c.args.found.now s)))

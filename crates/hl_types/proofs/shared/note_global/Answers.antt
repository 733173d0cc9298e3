use Rattle.std.proofs.Common.{◌∙◌, sym, ap}
use Rattle.hl_rules.specs.Found.{breaking, broken_if, gathered}
use Rattle.hl_rules.proofs.Noting.{noted-global_name}
use Rattle.hl_values.specs.ScopeViews.{scope_of}
use Rattle.hl_types.proofs.shared.note_global.Goals as goal

pub returns : goal.returns
returns c =
    c.note_if.ensures ∙
    (ap (λ b. gathered c.args.found.now (breaking 1 (broken_if b c.args.name))) c.is_global.ensures ∙
    sym (noted-global_name c.args.found.now (scope_of c.args.scope.now) c.args.name))

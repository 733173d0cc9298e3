use Rattle.std.proofs.Common.{◌∙◌}
use Rattle.std.proofs.lemmas.Result.{on_ok_weaker}
use Rattle.hl_values.specs.ScopeViews.{scope_of}
use Rattle.hl_values.proofs.ChangeLemmas.{declared-struct}
use Rattle.hl_values.proofs.scope.Scope.declare_struct.Goals as goal

pub returns-clause-scope : goal.returns-clause-scope
unfolding scope_of
returns-clause-scope c =
    on_ok_weaker c.declare_global.result
    (λ declared. declared ∙
    declared-struct (scope_of c.args.self.now) c.args.self.now.structs c.push.new.self c.args.index c.text_at-name.result.now c.args.members c.len-number.result
    c.in_ok-push.ensures.ok c.len-number.ensures.value c.text_at-name.ensures)
    c.declare_global.ensures.scope

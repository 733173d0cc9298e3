use Rattle.std.proofs.Common.{◌∙◌, sym, ap, is_some}
use Rattle.hl_values.specs.ScopeViews.{scope_of}
use Rattle.hl_values.proofs.ScopeLemmas.{function-named}
use Rattle.hl_values.proofs.scope.Scope.is_function.Goals as goal

pub returns : goal.returns
unfolding scope_of
returns c = c.is_some.ensures ∙ (ap is_some c.position.ensures ∙ sym (function-named c.args.self.now.functions c.args.name.now))

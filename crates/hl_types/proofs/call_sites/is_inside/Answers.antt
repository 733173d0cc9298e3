use Rattle.std.proofs.Common.{◌∙◌, ◌==◌, sym, ap, Some}
use Rattle.hl_rules.specs.ExpressionRules.{is_itself}
use Rattle.hl_values.specs.ScopeViews.{scope_of}
use Rattle.hl_types.proofs.call_sites.is_inside.Goals as goal

pub returns-in-Some : goal.returns-in-Some
unfolding scope_of
returns-in-Some c = λ candidate is. ap (λ n. c.in-Some.inside == n) (sym is) ∙ ap (λ o. is_itself o (Some candidate)) (sym c.in-Some.is)

pub returns-in-None : goal.returns-in-None
unfolding scope_of
returns-in-None c = λ candidate is. ap (λ o. is_itself o (Some candidate)) (sym c.in-None.is)

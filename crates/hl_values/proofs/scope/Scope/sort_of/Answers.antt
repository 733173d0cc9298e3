use Rattle.std.proofs.Common.{◌∙◌, sym, ap}
use Rattle.hl_rules.specs.Scopes.{declared_among, declared_in}
use Rattle.hl_values.specs.ScopeViews.{plain_blocks, plain_names, plain_sort_if, scope_of}
use Rattle.hl_values.proofs.ScopeLemmas.{declared-first}
use Rattle.hl_values.proofs.scope.Scope.sort_of.Goals as goal

pub returns-in-None : goal.returns-in-None
unfolding scope_of
returns-in-None c =
    ap plain_sort_if c.get.ensures ∙
    sym (ap (λ blocks. declared_among (plain_blocks blocks) c.args.name.now (declared_in (plain_names c.args.self.now.globals) c.args.name.now)) (sym c.as_slice.ensures.value) ∙
    (c.in-None.ensures (declared_in (plain_names c.args.self.now.globals) c.args.name.now) ∙ declared-first c.args.self.now.globals c.args.name.now))

use Rattle.std.proofs.Common.{◌∙◌, sym, ap, ◌-◌, take, arith}
use Rattle.std.specs.Option.{option_or}
use Rattle.hl_rules.specs.Scopes.{declared_among}
use Rattle.hl_values.specs.ScopeViews.{plain_blocks, plain_sort_if}
use Rattle.hl_values.proofs.ScopeLemmas.{innermost-step}
use Rattle.hl_values.proofs.lookup.in_blocks.Goals as goal

pub loop-at-preserved : goal.loop-at-preserved
loop-at-preserved c = λ other.
    c.loop-at.invariant other ∙
    (innermost-step c.args.blocks.now c.loop-at.at c.index-blocks-at.result c.args.name.now other c.loop-at-test.true (omega arith) c.index-blocks-at.is ∙
    ap (λ s. option_or (plain_sort_if s) (declared_among (plain_blocks (take (c.loop-at.at - 1) c.args.blocks.now)) c.args.name.now other)) (sym c.in_default.ensures))

pub returns-in-Some : goal.returns-in-Some
returns-in-Some c = λ other.
    c.loop-at.invariant other ∙
    (innermost-step c.args.blocks.now c.loop-at.at c.index-blocks-at.result c.args.name.now other c.loop-at-test.true (omega arith) c.index-blocks-at.is ∙
    ap (λ s. option_or (plain_sort_if s) (declared_among (plain_blocks (take (c.loop-at.at - 1) c.args.blocks.now)) c.args.name.now other)) (sym c.in-Some.ensures))

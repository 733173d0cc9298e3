use Rattle.std.proofs.Common.{◌∙◌, sym, ap, ◌+◌, ◌||◌, drop}
use Rattle.hl_parser.specs.Views.{plain_of, plain_trees}
use Rattle.hl_rules.specs.DeclarationRules.{has_numthreads}
use Rattle.hl_values.specs.ScopeViews.{scope_of}
use Rattle.hl_types.proofs.ThreadLemmas.{has_numthreads-more}
use Rattle.hl_types.proofs.Turns.{left-turn}
use Rattle.hl_types.proofs.threads.has_numthreads.Goals as goal

pub loop-tree-preserved : goal.loop-tree-preserved
loop-tree-preserved c =
    let s = scope_of c.args.scope.now in
    let xs = c.args.attributes.now in
    let rest = plain_trees (drop (c.loop-tree.tree-index + 1) xs) in
    sym (has_numthreads-more s (plain_of c.tree-item.result) rest ∙ ap (λ b. b || has_numthreads s rest) (sym c.is_numthreads_attribute.ensures ∙ c.if-is_numthreads_attribute.false)) ∙
    left-turn (λ l. has_numthreads s (plain_trees l)) xs c.loop-tree.tree-index c.tree-item.result _ c.loop-tree-test.true c.tree-item.is c.loop-tree.invariant

pub returns-then-is_numthreads_attribute : goal.returns-then-is_numthreads_attribute
returns-then-is_numthreads_attribute c =
    let s = scope_of c.args.scope.now in
    let xs = c.args.attributes.now in
    let rest = plain_trees (drop (c.loop-tree.tree-index + 1) xs) in
    sym (has_numthreads-more s (plain_of c.tree-item.result) rest ∙ ap (λ b. b || has_numthreads s rest) (sym c.is_numthreads_attribute.ensures ∙ c.if-is_numthreads_attribute.true)) ∙
    left-turn (λ l. has_numthreads s (plain_trees l)) xs c.loop-tree.tree-index c.tree-item.result _ c.loop-tree-test.true c.tree-item.is c.loop-tree.invariant

use Rattle.std.proofs.Common.{◌∙◌, sym, ap, ◌+◌, drop}
use Rattle.hl_parser.specs.Views.{plain_of, plain_trees}
use Rattle.hl_values.specs.ScopeViews.{scope_of}
use Rattle.hl_types.specs.Threads.{group_threads, three_numbers}
use Rattle.hl_types.proofs.ThreadLemmas.{group_threads-more, threads_or}
use Rattle.hl_types.proofs.Turns.{left-turn}
use Rattle.hl_types.proofs.threads.group_threads.Goals as goal

pub loop-tree-preserved : goal.loop-tree-preserved
loop-tree-preserved c =
    let s = scope_of c.args.scope.now in
    let xs = c.args.attributes.now in
    let rest = plain_trees (drop (c.loop-tree.tree-index + 1) xs) in
    sym (group_threads-more s (plain_of c.tree-item.result) rest ∙ ap (λ o. threads_or s o rest) (sym c.in_default.ensures)) ∙
    left-turn (λ l. group_threads s (plain_trees l)) xs c.loop-tree.tree-index c.tree-item.result _ c.loop-tree-test.true c.tree-item.is c.loop-tree.invariant

pub returns-in-Some : goal.returns-in-Some
returns-in-Some c =
    let s = scope_of c.args.scope.now in
    let xs = c.args.attributes.now in
    let rest = plain_trees (drop (c.loop-tree.tree-index + 1) xs) in
    c.three_numbers.ensures ∙ (ap (λ a. three_numbers s (plain_trees a)) c.as_slice.ensures ∙
    (sym (group_threads-more s (plain_of c.tree-item.result) rest ∙ ap (λ o. threads_or s o rest) (sym c.in-Some.ensures)) ∙
    left-turn (λ l. group_threads s (plain_trees l)) xs c.loop-tree.tree-index c.tree-item.result _ c.loop-tree-test.true c.tree-item.is c.loop-tree.invariant))

use Rattle.std.proofs.Common.{◌<◌, ◌∙◌, refl, ap, length, arith, rules}
use Rattle.hl_parser.specs.Views.{plain_of, plain_trees}
use Rattle.hl_rules.specs.Rules.{noted}
use Rattle.hl_rules.specs.Sites.{arguments_sites, value_sites}
use Rattle.hl_values.specs.ScopeViews.{scope_of}
use Rattle.hl_types.proofs.Turns.{noted-end, noted-turn}
use Rattle.hl_types.proofs.attributes.note_arguments.Goals as goal

pub loop-tree-preserved : goal.loop-tree-preserved
loop-tree-preserved c =
    let s = scope_of c.args.scope.now in
    let xs = c.as_slice-tree-items.result.now in
    let within : c.loop-tree.tree-index < length xs = search rules in
    noted-turn (λ l. arguments_sites s (plain_trees l)) (λ l. arguments_sites s (plain_trees l)) xs c.loop-tree.tree-index c.tree-item.result (value_sites s (plain_of c.tree-item.result))
    _ c.loop-tree.found c.used.new.found within c.tree-item.is refl c.loop-tree.invariant c.in_ok-used.ensures.found

pub returns : goal.returns
returns c =
    let s = scope_of c.args.scope.now in
    let xs = c.as_slice-tree-items.result.now in
    noted-end (λ l. arguments_sites s (plain_trees l)) xs c.loop-tree.tree-index _ c.loop-tree.found (omega arith) refl c.loop-tree.invariant ∙
    ap (λ l. noted c.args.found.now (arguments_sites s (plain_trees l))) c.as_slice-tree-items.ensures

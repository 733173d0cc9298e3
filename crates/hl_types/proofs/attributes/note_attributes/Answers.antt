use Rattle.std.proofs.Common.{◌<◌, ◌∙◌, refl, ap, drop, ◌+◌, length, arith, rules}
use Rattle.hl_parser.specs.Trees.{more_trees, no_trees}
use Rattle.hl_parser.specs.Views.{plain_of, plain_trees}
use Rattle.hl_rules.specs.Rules.{noted}
use Rattle.hl_rules.specs.Sites.{attributes_sites}
use Rattle.hl_values.specs.ScopeViews.{scope_of}
use Rattle.hl_types.proofs.AttributeForms.{attributes-step}
use Rattle.hl_types.proofs.Turns.{noted-end, noted-turn}
use Rattle.hl_types.proofs.attributes.note_attributes.Goals as goal

pub loop-tree-preserved : goal.loop-tree-preserved
loop-tree-preserved c =
    let s = scope_of c.args.scope.now in
    let xs = c.as_slice-tree-items.result.now in
    let within : c.loop-tree.tree-index < length xs = search rules in
    noted-turn (λ l. attributes_sites s (plain_trees l)) (λ l. attributes_sites s (plain_trees l)) xs c.loop-tree.tree-index c.tree-item.result (attributes_sites s (more_trees (plain_of c.tree-item.result) no_trees))
    _ c.loop-tree.found c.note_attribute.new.found within c.tree-item.is (attributes-step s (plain_of c.tree-item.result) (plain_trees (drop (c.loop-tree.tree-index + 1) xs))) c.loop-tree.invariant c.in_ok-note_attribute.ensures

pub returns : goal.returns
returns c =
    let s = scope_of c.args.scope.now in
    let xs = c.as_slice-tree-items.result.now in
    noted-end (λ l. attributes_sites s (plain_trees l)) xs c.loop-tree.tree-index _ c.loop-tree.found (omega arith) refl c.loop-tree.invariant ∙
    ap (λ l. noted c.args.found.now (attributes_sites s (plain_trees l))) c.as_slice-tree-items.ensures

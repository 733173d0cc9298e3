use Rattle.std.proofs.Common.{◌≡◌, ◌∙◌, refl, sym, ap, Bool, true, false, ◌+◌, ◌||◌, ◌++◌, drop}
use Rattle.hl_parser.specs.Trees.{more_trees, no_trees}
use Rattle.hl_parser.specs.Views.{plain_of, plain_trees}
use Rattle.hl_rules.specs.Sites.{function_attributes_sites}
use Rattle.hl_values.specs.ScopeViews.{scope_of}
use Rattle.hl_types.proofs.AttributeLemmas.{attributes-more}
use Rattle.hl_types.proofs.Turns.{noted-end, noted-turn}
use Rattle.hl_types.proofs.function_attributes.note_function_attributes.Goals.{then-again, else-again}
use Rattle.hl_types.proofs.function_attributes.note_function_attributes.Goals as goal

when-true : (a b v : Bool) → v ≡ a → a ≡ true → v ≡ (a || b)
when-true true b v e h = e
when-true false b v e h = absurd (cc h)

when-false : (a b v : Bool) → v ≡ b → a ≡ false → v ≡ (a || b)
when-false false b v e h = e
when-false true b v e h = absurd (cc h)

pub loop-tree-preserved : goal.loop-tree-preserved
loop-tree-preserved c =
    let s = scope_of c.args.scope.now in
    let xs = c.args.attributes.now in
    let i = c.loop-tree.tree-index in
    let t = plain_of c.tree-item.result in
    let again = c.loop-tree.again in
    let rest = plain_trees (drop (i + 1) xs) in
    let numthreads = c.is_numthreads_attribute-numthreads in
    let next : c.if-again.again ≡ (again || numthreads.result) =
    elim c.if-again.branch [ then-again w ↦ when-true _ _ _ w.again-is w.if-again.true | else-again w ↦ when-false _ _ _ w.again-is w.if-again.false ] in
    noted-turn (λ l. function_attributes_sites s again (plain_trees l)) (λ l. function_attributes_sites s c.if-again.again (plain_trees l)) xs i c.tree-item.result
    (function_attributes_sites s again (more_trees t no_trees)) _ c.loop-tree.found c.note_attribute.new.found c.loop-tree-test.true c.tree-item.is
    (attributes-more s again t rest ∙ ap (λ b. function_attributes_sites s again (more_trees t no_trees) ++ function_attributes_sites s b rest) (sym (next ∙ ap (λ b. again || b) numthreads.ensures)))
    c.loop-tree.invariant c.in_ok-note_attribute.ensures

pub returns : goal.returns
returns c =
    noted-end (λ l. function_attributes_sites (scope_of c.args.scope.now) c.loop-tree.again (plain_trees l)) c.args.attributes.now c.loop-tree.tree-index _ c.loop-tree.found c.loop-tree-test.false refl c.loop-tree.invariant

use Rattle.std.proofs.Common.{◌≡◌, ◌≤◌, ◌∙◌, ◌+◌, ◌++◌, None, Some, refl, sym, ap, append-nil, drop, length, map, arith}
use Rattle.std.proofs.lemmas.List.{map-append}
use Rattle.hl_parser.specs.Views.{plain_of, plain_trees}
use Rattle.hl_rules.specs.DeclarationRules.{leaves_among, leaves_of}
use Rattle.hl_rules.specs.Elaboration.{leaf_word}
use Rattle.hl_values.specs.ScopeViews.{scope_of}
use Rattle.hl_types.proofs.InitShapes.{init-tree, no_init}
use Rattle.hl_types.proofs.LeafLemmas.{listed-end, listed-turn, parts-words, value-words}
use Rattle.hl_types.proofs.constant_words.+leaf_words.Goals as goal

pub add_words-returns-in-Some : goal.add_words-returns-in-Some
add_words-returns-in-Some t c =
    value-words c.push.result (scope_of c.args.scope.now) c.args.words.now _ (plain_of c.args.tree.now) (plain_of c.in-Some.value) c.in-Init.at (plain_trees c.in-Init.parts) _
    (init-tree c.args.tree.now c.in-Init.at c.in-Init.value (Some c.in-Some.value) c.in-Init.parts c.in-Init.is c.in-Some.is)
    (c.leaf_word.ensures ∙ ap (λ x. leaf_word (scope_of c.args.scope.now) (plain_of x)) c.get.ensures) c.push.ensures.ok

pub add_words-returns-in-None : goal.add_words-returns-in-None
add_words-returns-in-None t c =
    parts-words c.add_all_words.result (scope_of c.args.scope.now) c.args.words.now _ (plain_of c.args.tree.now) c.in-Init.at (plain_trees c.in-Init.parts)
    (init-tree c.args.tree.now c.in-Init.at c.in-Init.value None c.in-Init.parts c.in-Init.is c.in-None.is) c.add_all_words.ensures

pub add_words-returns-in_default : goal.add_words-returns-in_default
add_words-returns-in_default t c =
    let s = scope_of c.args.scope.now in
    sym (ap (λ l. c.args.words.now ++ map (leaf_word s) l) (no_init s c.args.tree.now c.in_default.not-Init).leaves ∙ append-nil c.args.words.now)

pub add_all_words-loop-tree-preserved : goal.add_all_words-loop-tree-preserved
add_all_words-loop-tree-preserved t c =
    let s = scope_of c.args.scope.now in
    let xs = c.as_slice-tree-items.result.now in
    let i = c.loop-tree.tree-index in
    let x = c.tree-item.result in
    listed-turn (λ l. map (leaf_word s) (leaves_among (plain_trees l))) xs i x (map (leaf_word s) (leaves_of (plain_of x))) c.loop-tree.words c.add_words.new.words _
    c.loop-tree-test.true c.tree-item.is (map-append (leaf_word s) (leaves_of (plain_of x)) (leaves_among (plain_trees (drop (i + 1) xs)))) c.loop-tree.invariant c.in_ok-add_words.ensures

pub add_all_words-returns : goal.add_all_words-returns
add_all_words-returns t c =
    let s = scope_of c.args.scope.now in
    let xs = c.as_slice-tree-items.result.now in
    let i = c.loop-tree.tree-index in
    let items : xs ≡ c.args.trees.now = c.as_slice-tree-items.ensures in
    let past : length xs ≤ i = omega arith in
    listed-end (λ l. map (leaf_word s) (leaves_among (plain_trees l))) xs i c.loop-tree.words _ past refl c.loop-tree.invariant ∙
    ap (λ l. c.args.words.now ++ map (leaf_word s) (leaves_among (plain_trees l))) items

use Rattle.std.proofs.Common.{◌≡◌, ◌∙◌, ◌+◌, ◌++◌, ◌||◌, ◌≤◌, refl, sym, ap, drop, length, map, append-nil, arith}
use Rattle.std.specs.List.{list_any}
use Rattle.std.proofs.lemmas.List.{map-append}
use Rattle.hl_parser.specs.Trees.{an_init}
use Rattle.hl_parser.specs.Views.{plain_maybe, plain_of, plain_trees}
use Rattle.hl_parser.proofs.Plain.{plain-Init}
use Rattle.hl_rules.specs.DeclarationRules.{leaves_among, leaves_of}
use Rattle.hl_rules.specs.Expressions.{code_of}
use Rattle.hl_rules.specs.Rules.{noted}
use Rattle.hl_rules.specs.Sites.{leaf_sites, leaves_sites, value_sites}
use Rattle.hl_rules.specs.Values.{value_of}
use Rattle.hl_rules.proofs.Noting.{noted-none}
use Rattle.hl_values.specs.ScopeViews.{scope_of}
use Rattle.hl_values.specs.Views.{plain_code_if}
use Rattle.hl_types.specs.Leaves.{is_other_leaf}
use Rattle.hl_types.proofs.InitShapes.{no_init}
use Rattle.hl_types.proofs.LeafLemmas.{any-append, any-end, any-turn, listed-end, listed-turn, or-none, parts-codes, parts-found, parts-other, value-codes, value-found, value-other}
use Rattle.hl_types.proofs.Turns.{noted-end, noted-turn}
use Rattle.hl_types.proofs.braces.+leaves.Goals as goal

pub note_leaf-returns-in_ok-typed-in-Some-clause-codes : goal.note_leaf-returns-in_ok-typed-in-Some-clause-codes
note_leaf-returns-in_ok-typed-in-Some-clause-codes t c =
    value-codes c.push.result (scope_of c.args.scope.now) (map plain_code_if c.args.leaves.now.codes.items) _ (plain_of c.args.tree.now) (plain_of c.in-Some.value) c.in-Init.at (plain_trees c.in-Init.parts) _
    (ap plain_of c.in-Init.is ∙ (plain-Init c.in-Init.at c.in-Init.value c.in-Init.parts ∙ ap (λ o. an_init c.in-Init.at (plain_maybe o) (plain_trees c.in-Init.parts)) c.in-Some.is))
    (c.in_ok-typed-in-Some.ensures.typed.code ∙ ap (λ x. code_of (scope_of c.args.scope.now) (plain_of x)) c.get.ensures) c.push.ensures.codes

pub note_leaf-returns-in_ok-typed-in-Some-clause-other : goal.note_leaf-returns-in_ok-typed-in-Some-clause-other
note_leaf-returns-in_ok-typed-in-Some-clause-other t c =
    value-other c.push.result (scope_of c.args.scope.now) c.args.leaves.now.has_other _ (plain_of c.args.tree.now) (plain_of c.in-Some.value) c.in-Init.at (plain_trees c.in-Init.parts) _
    (ap plain_of c.in-Init.is ∙ (plain-Init c.in-Init.at c.in-Init.value c.in-Init.parts ∙ ap (λ o. an_init c.in-Init.at (plain_maybe o) (plain_trees c.in-Init.parts)) c.in-Some.is))
    (ap (λ v. v.ty) c.in_ok-typed-in-Some.ensures.typed.value ∙ ap (λ x. (value_of (scope_of c.args.scope.now) (plain_of x)).ty) c.get.ensures) c.push.ensures.other

pub note_leaf-returns-in_ok-typed-in-Some-clause-found : goal.note_leaf-returns-in_ok-typed-in-Some-clause-found
note_leaf-returns-in_ok-typed-in-Some-clause-found t c =
    value-found c.push.result (scope_of c.args.scope.now) c.args.found.now _ (plain_of c.args.tree.now) (plain_of c.in-Some.value) c.in-Init.at (plain_trees c.in-Init.parts)
    (ap plain_of c.in-Init.is ∙ (plain-Init c.in-Init.at c.in-Init.value c.in-Init.parts ∙ ap (λ o. an_init c.in-Init.at (plain_maybe o) (plain_trees c.in-Init.parts)) c.in-Some.is))
    (c.in_ok-typed-in-Some.ensures.found ∙ ap (λ x. noted c.args.found.now (value_sites (scope_of c.args.scope.now) (plain_of x))) c.get.ensures)

pub note_leaf-returns-in-None-clause-codes : goal.note_leaf-returns-in-None-clause-codes
note_leaf-returns-in-None-clause-codes t c =
    parts-codes c.note_leaves.result (scope_of c.args.scope.now) (map plain_code_if c.args.leaves.now.codes.items) _ (plain_of c.args.tree.now) c.in-Init.at (plain_trees c.in-Init.parts)
    (ap plain_of c.in-Init.is ∙ (plain-Init c.in-Init.at c.in-Init.value c.in-Init.parts ∙ ap (λ o. an_init c.in-Init.at (plain_maybe o) (plain_trees c.in-Init.parts)) c.in-None.is))
    c.note_leaves.ensures.codes

pub note_leaf-returns-in-None-clause-other : goal.note_leaf-returns-in-None-clause-other
note_leaf-returns-in-None-clause-other t c =
    parts-other c.note_leaves.result (scope_of c.args.scope.now) c.args.leaves.now.has_other _ (plain_of c.args.tree.now) c.in-Init.at (plain_trees c.in-Init.parts)
    (ap plain_of c.in-Init.is ∙ (plain-Init c.in-Init.at c.in-Init.value c.in-Init.parts ∙ ap (λ o. an_init c.in-Init.at (plain_maybe o) (plain_trees c.in-Init.parts)) c.in-None.is))
    c.note_leaves.ensures.other

pub note_leaf-returns-in-None-clause-found : goal.note_leaf-returns-in-None-clause-found
note_leaf-returns-in-None-clause-found t c =
    parts-found c.note_leaves.result (scope_of c.args.scope.now) c.args.found.now _ (plain_of c.args.tree.now) c.in-Init.at (plain_trees c.in-Init.parts)
    (ap plain_of c.in-Init.is ∙ (plain-Init c.in-Init.at c.in-Init.value c.in-Init.parts ∙ ap (λ o. an_init c.in-Init.at (plain_maybe o) (plain_trees c.in-Init.parts)) c.in-None.is))
    c.note_leaves.ensures.found

pub note_leaf-returns-in_default : goal.note_leaf-returns-in_default
note_leaf-returns-in_default t c =
    let s = scope_of c.args.scope.now in
    let f = c.args.found.now in
    let old = map plain_code_if c.args.leaves.now.codes.items in
    let any = c.args.leaves.now.has_other in
    let none = no_init s c.args.tree.now c.in_default.not-Init in
    record {
      codes = sym (ap (λ l. old ++ map (code_of s) l) none.leaves ∙ append-nil old);
      other = sym (ap (λ l. any || list_any (is_other_leaf s) l) none.leaves ∙ or-none any);
      found = sym (ap (noted f) none.sites ∙ noted-none f);
    }

pub note_leaves-loop-tree-preserved : goal.note_leaves-loop-tree-preserved
note_leaves-loop-tree-preserved t c =
    let s = scope_of c.args.scope.now in
    let xs = c.as_slice-tree-items.result.now in
    let i = c.loop-tree.tree-index in
    let x = c.tree-item.result in
    let rest = leaves_among (plain_trees (drop (i + 1) xs)) in
    let own = leaves_of (plain_of x) in
    record {
      codes =
          listed-turn (λ l. map (code_of s) (leaves_among (plain_trees l))) xs i x (map (code_of s) own) (map plain_code_if c.loop-tree.leaves.codes.items) (map plain_code_if c.note_leaf.new.leaves.codes.items) _
          c.loop-tree-test.true c.tree-item.is (map-append (code_of s) own rest) c.loop-tree.invariant.codes c.in_ok-note_leaf.ensures.codes;
      other =
          any-turn (λ l. list_any (is_other_leaf s) (leaves_among (plain_trees l))) xs i x (list_any (is_other_leaf s) own) c.loop-tree.leaves.has_other c.note_leaf.new.leaves.has_other _
          c.loop-tree-test.true c.tree-item.is (any-append (is_other_leaf s) own rest) c.loop-tree.invariant.other c.in_ok-note_leaf.ensures.other;
      found =
          noted-turn (λ l. leaves_sites s (plain_trees l)) (λ l. leaves_sites s (plain_trees l)) xs i x (leaf_sites s (plain_of x)) _ c.loop-tree.found c.note_leaf.new.found
          c.loop-tree-test.true c.tree-item.is refl c.loop-tree.invariant.found c.in_ok-note_leaf.ensures.found;
    }

pub note_leaves-returns : goal.note_leaves-returns
note_leaves-returns t c =
    let s = scope_of c.args.scope.now in
    let f = c.args.found.now in
    let old = map plain_code_if c.args.leaves.now.codes.items in
    let any = c.args.leaves.now.has_other in
    let xs = c.as_slice-tree-items.result.now in
    let i = c.loop-tree.tree-index in
    let items : xs ≡ c.args.trees.now = c.as_slice-tree-items.ensures in
    let past : length xs ≤ i = omega arith in
    record {
      codes =
          listed-end (λ l. map (code_of s) (leaves_among (plain_trees l))) xs i (map plain_code_if c.loop-tree.leaves.codes.items) _ past refl c.loop-tree.invariant.codes ∙
          ap (λ l. old ++ map (code_of s) (leaves_among (plain_trees l))) items;
      other =
          any-end (λ l. list_any (is_other_leaf s) (leaves_among (plain_trees l))) xs i c.loop-tree.leaves.has_other _ past refl c.loop-tree.invariant.other ∙
          ap (λ l. any || list_any (is_other_leaf s) (leaves_among (plain_trees l))) items;
      found =
          noted-end (λ l. leaves_sites s (plain_trees l)) xs i _ c.loop-tree.found past refl c.loop-tree.invariant.found ∙
          ap (λ l. noted f (leaves_sites s (plain_trees l))) items;
    }

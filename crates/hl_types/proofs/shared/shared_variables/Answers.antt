use Rattle.std.proofs.Common.{◌∙◌, refl, sym, ◌+◌, ◌++◌, append-nil, drop, map}
use Rattle.hl_meaning.specs.Views.{plain_variable}
use Rattle.hl_parser.specs.Views.{plain_of, plain_trees}
use Rattle.hl_rules.specs.Declarations.{after_shared}
use Rattle.hl_rules.specs.Elaboration.{declared_shared}
use Rattle.hl_rules.specs.Rules.{noted}
use Rattle.hl_rules.specs.Sites.{shared_sites}
use Rattle.hl_values.specs.ScopeViews.{scope_of}
use Rattle.hl_values.specs.Views.{plain_type_if}
use Rattle.hl_types.proofs.SharedLemmas.{more-found, more-scope, more-variables}
use Rattle.hl_types.proofs.Turns.{left-end, left-turn, noted-end}
use Rattle.hl_types.proofs.shared.shared_variables.Goals as goal

pub loop-tree-preserved : goal.loop-tree-preserved
loop-tree-preserved c =
    let ty = plain_type_if c.args.ty.now in
    let s = scope_of c.loop-tree.scope in
    let made = map plain_variable c.loop-tree.made in
    let xs = c.args.trees.now in
    let i = c.loop-tree.tree-index in
    let x = c.tree-item.result in
    let rest = plain_trees (drop (i + 1) xs) in
    record {
      scope = more-scope ty s _ _ (plain_of x) rest c.in_ok-shared_variable.ensures.scope
          (left-turn (λ l. after_shared ty s (plain_trees l)) xs i x _ c.loop-tree-test.true c.tree-item.is c.loop-tree.invariant.scope);
      made = more-variables ty s _ (plain_of x) rest made _ _ c.in_ok-shared_variable.ensures.scope c.in_ok-shared_variable.ensures.made
          (left-turn (λ l. made ++ declared_shared ty s (plain_trees l)) xs i x _ c.loop-tree-test.true c.tree-item.is c.loop-tree.invariant.made);
      found = more-found ty s _ (plain_of x) rest c.loop-tree.found c.shared_variable.new.found _ c.in_ok-shared_variable.ensures.scope c.in_ok-shared_variable.ensures.found
          (left-turn (λ l. noted c.loop-tree.found (shared_sites ty s (plain_trees l))) xs i x _ c.loop-tree-test.true c.tree-item.is c.loop-tree.invariant.found);
    }

pub returns-clause-made : goal.returns-clause-made
returns-clause-made c =
    let made = map plain_variable c.loop-tree.made in
    sym (append-nil made) ∙
    left-end (λ l. made ++ declared_shared (plain_type_if c.args.ty.now) (scope_of c.loop-tree.scope) (plain_trees l)) c.args.trees.now c.loop-tree.tree-index _ c.loop-tree-test.false c.loop-tree.invariant.made

pub returns-clause-found : goal.returns-clause-found
returns-clause-found c =
    noted-end (λ l. shared_sites (plain_type_if c.args.ty.now) (scope_of c.loop-tree.scope) (plain_trees l)) c.args.trees.now c.loop-tree.tree-index _ c.loop-tree.found c.loop-tree-test.false refl c.loop-tree.invariant.found

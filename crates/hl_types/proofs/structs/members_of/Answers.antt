use Rattle.std.proofs.Common.{refl, ◌+◌, ◌++◌, drop, map}
use Rattle.hl_parser.specs.Views.{plain_of, plain_trees}
use Rattle.hl_rules.specs.Declarations.{members_info}
use Rattle.hl_rules.specs.Rules.{noted}
use Rattle.hl_rules.specs.Sites.{members_sites}
use Rattle.hl_values.specs.ScopeViews.{scope_of}
use Rattle.hl_values.specs.StructTables.{plain_member}
use Rattle.hl_types.proofs.MemberLemmas.{members-found, members-info}
use Rattle.hl_types.proofs.Turns.{left-turn, noted-end}
use Rattle.hl_types.proofs.structs.members_of.Goals as goal

pub loop-tree-preserved : goal.loop-tree-preserved
loop-tree-preserved c =
    let s = scope_of c.args.scope.now in
    let xs = c.args.trees.now in
    let i = c.loop-tree.tree-index in
    let x = c.tree-item.result in
    let rest = plain_trees (drop (i + 1) xs) in
    let before = map plain_member c.loop-tree.members in
    record {
      members = members-info s before _ _ (plain_of x) rest c.in_ok-note_tree.ensures.members
          (left-turn (λ l. before ++ members_info s (plain_trees l)) xs i x _ c.loop-tree-test.true c.tree-item.is c.loop-tree.invariant.members);
      found = members-found s before _ (plain_of x) rest c.loop-tree.found c.note_tree.new.found _ c.in_ok-note_tree.ensures.members c.in_ok-note_tree.ensures.found
          (left-turn (λ l. noted c.loop-tree.found (members_sites s before (plain_trees l))) xs i x _ c.loop-tree-test.true c.tree-item.is c.loop-tree.invariant.found);
    }

pub returns-clause-found : goal.returns-clause-found
returns-clause-found c =
    noted-end (λ l. members_sites (scope_of c.args.scope.now) (map plain_member c.loop-tree.members) (plain_trees l)) c.args.trees.now c.loop-tree.tree-index _ c.loop-tree.found c.loop-tree-test.false refl c.loop-tree.invariant.found

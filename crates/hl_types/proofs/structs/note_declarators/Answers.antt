use Rattle.std.proofs.Common.{refl, ◌+◌, ◌++◌, drop, map}
use Rattle.hl_parser.specs.Views.{plain_of, plain_trees}
use Rattle.hl_rules.specs.Declarations.{declarators_info}
use Rattle.hl_rules.specs.Rules.{noted}
use Rattle.hl_rules.specs.Sites.{declarators_sites}
use Rattle.hl_values.specs.ScopeViews.{scope_of}
use Rattle.hl_values.specs.StructTables.{plain_member}
use Rattle.hl_values.specs.Views.{plain_type_if}
use Rattle.hl_types.proofs.MemberLemmas.{declarators-found, declarators-info}
use Rattle.hl_types.proofs.Turns.{left-turn, noted-end}
use Rattle.hl_types.proofs.structs.note_declarators.Goals as goal

pub loop-tree-preserved : goal.loop-tree-preserved
loop-tree-preserved c =
    let s = scope_of c.args.scope.now in
    let ty = plain_type_if c.args.ty.now in
    let xs = c.args.declarators.now in
    let i = c.loop-tree.tree-index in
    let x = c.tree-item.result in
    let rest = plain_trees (drop (i + 1) xs) in
    let before = map plain_member c.loop-tree.members in
    record {
      members = declarators-info s ty before _ _ (plain_of x) rest c.in_ok-note_member.ensures.members
          (left-turn (λ l. before ++ declarators_info s ty (plain_trees l)) xs i x _ c.loop-tree-test.true c.tree-item.is c.loop-tree.invariant.members);
      found = declarators-found s ty before _ (plain_of x) rest c.loop-tree.found c.note_member.new.found _ c.in_ok-note_member.ensures.members c.in_ok-note_member.ensures.found
          (left-turn (λ l. noted c.loop-tree.found (declarators_sites s ty before (plain_trees l))) xs i x _ c.loop-tree-test.true c.tree-item.is c.loop-tree.invariant.found);
    }

pub returns-clause-found : goal.returns-clause-found
returns-clause-found c =
    noted-end (λ l. declarators_sites (scope_of c.args.scope.now) (plain_type_if c.args.ty.now) (map plain_member c.loop-tree.members) (plain_trees l)) c.args.declarators.now c.loop-tree.tree-index _ c.loop-tree.found c.loop-tree-test.false refl c.loop-tree.invariant.found

use Rattle.std.proofs.Common.{◌∙◌, sym, ap, ◌++◌, map, append-nil}
use Rattle.hl_parser.specs.Trees.{more_trees, no_trees}
use Rattle.hl_parser.specs.Views.{plain_of, plain_trees}
use Rattle.hl_parser.proofs.Plain.{plain-Member}
use Rattle.hl_rules.specs.Constants.{named_type}
use Rattle.hl_rules.specs.Declarations.{declarators_info, member_info}
use Rattle.hl_values.specs.Views.{plain_type_if}
use Rattle.hl_rules.specs.Rules.{noted}
use Rattle.hl_rules.specs.Sites.{declarators_sites, members_sites, type_sites}
use Rattle.hl_rules.proofs.Noting.{noted-none}
use Rattle.hl_values.specs.ScopeViews.{scope_of}
use Rattle.hl_values.specs.StructTables.{plain_member}
use Rattle.hl_types.proofs.MemberLemmas.{no_member, tree-noted}
use Rattle.hl_types.proofs.structs.note_tree.Goals as goal

pub returns-in_ok-note_declarators-in-Member-clause-members : goal.returns-in_ok-note_declarators-in-Member-clause-members
returns-in_ok-note_declarators-in-Member-clause-members c =
    let s = scope_of c.args.scope.now in
    let before = map plain_member c.args.members.now in
    c.in_ok-note_declarators-in-Member.ensures.members ∙
    (ap (λ n. before ++ declarators_info s n (plain_trees c.as_slice.result.now)) (c.named_type-named.ensures ∙ ap (λ x. named_type s (plain_of x)) c.get-in-Member.ensures) ∙
    (ap (λ l. before ++ declarators_info s (named_type s (plain_of c.in-Member.ty)) (plain_trees l)) c.as_slice.ensures ∙
    sym (ap (λ t. before ++ member_info s t) (ap plain_of c.in-Member.is ∙ plain-Member _ _ _))))

pub returns-in_ok-note_declarators-in-Member-clause-found : goal.returns-in_ok-note_declarators-in-Member-clause-found
returns-in_ok-note_declarators-in-Member-clause-found c =
    let s = scope_of c.args.scope.now in
    let before = map plain_member c.args.members.now in
    tree-noted s c.in-Member.at (plain_of c.in-Member.ty) (plain_trees c.in-Member.declarators) before _ c.args.found.now c.note_type.new.found _
    (c.note_type.ensures ∙ ap (λ x. noted c.args.found.now (type_sites s (plain_of x))) c.get.ensures)
    (c.named_type-named.ensures ∙ ap (λ x. named_type s (plain_of x)) c.get-in-Member.ensures)
    (c.in_ok-note_declarators-in-Member.ensures.found ∙ ap (λ l. noted c.note_type.new.found (declarators_sites s (plain_type_if c.named_type-named.result) before (plain_trees l))) c.as_slice.ensures) ∙
    sym (ap (λ t. noted c.args.found.now (members_sites s before (more_trees t no_trees))) (ap plain_of c.in-Member.is ∙ plain-Member _ _ _))

pub returns-in_default : goal.returns-in_default
returns-in_default c =
    let before = map plain_member c.args.members.now in
    let none = no_member (scope_of c.args.scope.now) before c.args.tree.now c.in_default.not-Member in
    record {
      members = sym (append-nil before) ∙ ap (λ l. before ++ l) (sym none.info);
      found = sym (ap (noted c.args.found.now) none.found ∙ noted-none c.args.found.now);
    }

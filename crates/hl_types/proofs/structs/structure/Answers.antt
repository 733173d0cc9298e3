use Rattle.std.proofs.Common.{◌∙◌, sym, ap, option_and_then, option_map, slice_get}
use Rattle.hl_parser.specs.Views.{plain_trees}
use Rattle.hl_rules.specs.Scopes.{StructInfo}
use Rattle.hl_values.specs.ScopeChanges.{with_struct_named}
use Rattle.hl_values.specs.ScopeViews.{scope_of}
use Rattle.hl_values.specs.WordCounts.{counted}
use Rattle.hl_types.proofs.DeclaredItems.{struct-noted, struct-words}
use Rattle.hl_types.proofs.ScopeParts.{structs-in, structs-count}
use Rattle.hl_types.proofs.structs.structure.Goals as goal

pub returns-clause-scope : goal.returns-clause-scope
returns-clause-scope c =
    c.in_ok-declare_struct.ensures.scope ∙ ap (λ l. with_struct_named c.args.name l (scope_of c.args.scope.now)) c.in_ok-members.ensures.members

pub returns-clause-found : goal.returns-clause-found
returns-clause-found c =
    let s = scope_of c.args.scope.now in
    let members = plain_trees c.args.trees.now in
    let behind = c.in_ok-declare_struct.ensures.scope ∙ ap (λ l. with_struct_named c.args.name l s) c.in_ok-members.ensures.members in
    struct-noted s c.args.name members c.args.found.now c.members_of.new.found c.note_global.new.found _ c.is_more.result
    c.in_ok-members.ensures.found c.note_global.ensures
    (c.is_more.ensures _ (c.words-words.ensures ∙
    ap (option_map counted) (ap (λ l. option_and_then (λ (d : StructInfo). d.words) (slice_get l c.len-number.result)) (sym (structs-in c.declare_struct.new.self)) ∙
    struct-words s (scope_of c.declare_struct.new.self) c.args.name members c.len-number.result behind (c.len-number.ensures.value ∙ structs-count c.args.scope.now))))
    c.note_if.ensures

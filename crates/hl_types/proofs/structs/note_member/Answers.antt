use Rattle.std.proofs.Common.{◌∙◌, ap}
use Rattle.hl_parser.specs.Views.{plain_of}
use Rattle.hl_rules.specs.Scopes.{spelled}
use Rattle.hl_values.specs.ScopeViews.{scope_of}
use Rattle.hl_values.specs.Views.{plain_type_if}
use Rattle.hl_types.proofs.MemberLemmas.{member-noted}
use Rattle.hl_types.proofs.structs.note_member.Goals as goal

pub returns-clause-found : goal.returns-clause-found
returns-clause-found c =
    let s = scope_of c.args.scope.now in
    member-noted s (plain_type_if c.args.ty.now) (plain_of c.args.tree.now) c.args.members.now c.args.found.now c.declarator.new.found c.note_if.new.found c.position.result c.is_some.result c.text_at-name.result.now c.at-2.result
    c.in_ok-own.ensures.found c.position.ensures c.is_some.ensures (c.text_at-name.ensures ∙ ap (spelled s) c.at.ensures) c.at-2.ensures c.note_if.ensures

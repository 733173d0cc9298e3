use Rattle.std.proofs.Common.{◌∙◌}
use Rattle.std.specs.Option.{option_copied}
use Rattle.hl_values.specs.ScopeViews.{plain_sort_if, scope_of}
use Rattle.hl_types.proofs.DeclaratorNotes.{missing-is, none-is, type_name-noted}
use Rattle.hl_types.proofs.declarators.note_name.Goals as goal

pub returns : goal.returns
returns c =
    let s = scope_of c.args.scope.now in
    type_name-noted s c.args.at c.args.found.now c.note_if.new.found c.note_if-2.new.found (plain_sort_if (option_copied c.sort_at-sort.result)) c.is_none.result c.is_no_struct.result
    c.sort_at-sort.ensures (none-is c.sort_at-sort.result c.is_none.result c.is_none.ensures ∙ missing-is c.sort_at-sort.result) c.note_if.ensures c.is_no_struct.ensures c.note_if-2.ensures

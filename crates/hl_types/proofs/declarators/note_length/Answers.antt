use Rattle.hl_parser.specs.Views.{plain_of}
use Rattle.hl_values.specs.ScopeViews.{scope_of}
use Rattle.hl_types.proofs.DeclaratorNotes.{length-noted}
use Rattle.hl_types.proofs.declarators.note_length.Goals as goal

pub returns : goal.returns
returns c =
    length-noted (scope_of c.args.scope.now) c.args.before (plain_of c.args.tree.now) c.in_ok-typed.typed c.args.found.now c.used.new.found c.note_if.new.found c.is_refused.result c.at.result
    c.in_ok-typed.ensures.typed c.in_ok-typed.ensures.found c.is_refused.ensures c.at.ensures c.note_if.ensures

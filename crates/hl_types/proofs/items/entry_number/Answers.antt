use Rattle.std.proofs.Common.{◌∙◌}
use Rattle.hl_types.proofs.ScopeParts.{entry-position}
use Rattle.hl_types.proofs.items.entry_number.Goals as goal

pub returns : goal.returns
returns c = c.position.ensures ∙ entry-position c.args.scope.now

use Rattle.std.proofs.Common.{◌∙◌, ap, Some}
use Rattle.hl_rules.specs.Statements.{jump_code, one_stmt}
use Rattle.hl_types.proofs.jumps.jump.Goals as goal

pub returns : goal.returns
returns c = record {
  code = ap (λ s. Some s) (c.in_ok-one.ensures ∙ ap one_stmt (c.jump_stmt.ensures ∙ ap jump_code c.terminal_at.ensures));
  found = c.note_jump.ensures;
}

use Rattle.std.proofs.Common.{◌∙◌, sym, ap, None}
use Rattle.hl_meaning.proofs.Plain.{plain_stmt-Break, plain_stmt-Continue, plain_stmt-Return}
use Rattle.hl_rules.specs.Statements.{jump_code}
use Rattle.hl_types.proofs.TypedForms.{jump_code-other}
use Rattle.hl_types.proofs.jumps.jump_stmt.Goals as goal

pub returns-in-Break : goal.returns-in-Break
returns-in-Break c = plain_stmt-Break ∙ sym (ap jump_code c.in-Break.is)

pub returns-in-Continue : goal.returns-in-Continue
returns-in-Continue c = plain_stmt-Continue ∙ sym (ap jump_code c.in-Continue.is)

pub returns-in_default : goal.returns-in_default
returns-in_default c = plain_stmt-Return None ∙ sym (jump_code-other c.args.word c.in_default.not-Break c.in_default.not-Continue)

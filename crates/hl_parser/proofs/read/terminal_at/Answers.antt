use Rattle.std.proofs.Common.{◌∙◌}
use Rattle.hl_parser.proofs.ParseFacts.{first_at}
use Rattle.hl_parser.proofs.read.terminal_at.Goals as goal

pub returns-then-at-tokens : goal.returns-then-at-tokens
returns-then-at-tokens c = c.terminal.ensures ∙ first_at c.args.tokens.now c.args.at _ c.if-at-tokens.true

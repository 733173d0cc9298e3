use Rattle.std.proofs.Common.{◌∙◌, sym}
use Rattle.hl_lexer.proofs.ReadFacts.{large_too_many, too_large}
use Rattle.hl_lexer.proofs.reader.large_number.Goals as goal

pub returns-then-len-eq-MOST_TOKENS : goal.returns-then-len-eq-MOST_TOKENS
returns-then-len-eq-MOST_TOKENS c =
    large_too_many c.args.reader.now c.requires.read c.requires.number (sym c.len.ensures.value ∙ c.if-len-eq-MOST_TOKENS.true)

pub returns-else-len-eq-MOST_TOKENS : goal.returns-else-len-eq-MOST_TOKENS
returns-else-len-eq-MOST_TOKENS c =
    too_large c.args.reader.now c.requires.read c.requires.number (λ e. c.if-len-eq-MOST_TOKENS.false (c.len.ensures.value ∙ e))

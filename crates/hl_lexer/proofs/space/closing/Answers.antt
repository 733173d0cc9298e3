use Rattle.std.proofs.Common.{arith}
use Rattle.hl_lexer.proofs.SpaceFacts.{first_closing, no_closing}
use Rattle.hl_lexer.proofs.space.closing.Goals as goal

pub returns-then-is_closing : goal.returns-then-is_closing
returns-then-is_closing c =
    first_closing c.args.bytes.now c.loop-index.index c.loop-index.invariant (c.is_closing.ensures.0 c.if-is_closing.true)

pub returns : goal.returns
returns c = no_closing c.args.bytes.now (λ k within. c.loop-index.invariant k (omega arith))

use Rattle.std.proofs.Common.{subst, ap, map, length, arith}
use Rattle.hl_lexer.specs.Tokens.{IsTokenList, lexeme_of}
use Rattle.hl_lexer.proofs.ReadFacts.{reads_end}
use Rattle.hl_lexer.proofs.reader.read.Goals as goal

pub returns-clause-tokens : goal.returns-clause-tokens
returns-clause-tokens c =
    let reader = c.loop-reader.reader in
    let text = c.loop-reader.invariant.text in
    subst (λ bytes. IsTokenList bytes (map lexeme_of reader.tokens) reader.place) text
    (reads_end reader c.loop-reader.invariant.read (omega (arith, c.loop-reader-test.false, ap length text)))

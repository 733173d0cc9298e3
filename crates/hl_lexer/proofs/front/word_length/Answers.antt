use Rattle.std.proofs.Common.{◌≡◌, ◌∙◌, true, sym}
use Rattle.std.proofs.lemmas.List.Elements.{All-more}
use Rattle.hl_lexer.specs.Bytes.{is_word_byte}
use Rattle.hl_lexer.proofs.front.word_length.Goals as goal

pub loop-index-preserved : goal.loop-index-preserved
loop-index-preserved c =
    All-more (λ b. is_word_byte b ≡ true) c.args.rest.now c.loop-index.index 0 c.loop-index-test.true c.loop-index.invariant (sym c.is_word_byte.ensures ∙ c.if-not-is_word_byte.false)

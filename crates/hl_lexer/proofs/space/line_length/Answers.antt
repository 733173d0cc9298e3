use Rattle.std.proofs.Common.{◌≡◌, true, get_or, not, ap, ne_eqb}
use Rattle.std.proofs.lemmas.List.Elements.{All-more}
use Rattle.hl_lexer.specs.Bytes.{is_no_line_feed}
use Rattle.hl_lexer.proofs.space.line_length.Goals as goal

pub loop-index-preserved : goal.loop-index-preserved
loop-index-preserved c =
    let bytes = c.args.bytes.now in
    let index = c.loop-index.index in
    All-more (λ b. is_no_line_feed b ≡ true) bytes index 0 c.loop-index-test.true c.loop-index.invariant (ap not (ne_eqb (get_or bytes index 0) 10 c.if-byte-eq10.false))

use Rattle.std.proofs.Common.{◌∙◌, sym, ap, ◌+◌, drop, get_or, arith}
use Rattle.base_core.specs.declared.place.Place.{Place}
use Rattle.hl_lexer.specs.Reading.{place_past}
use Rattle.hl_lexer.proofs.PlaceFacts.{next_column, next_line, past_more}
use Rattle.hl_lexer.proofs.reader.past.Goals as goal

pub loop-byte-preserved : goal.loop-byte-preserved
loop-byte-preserved c =
    let bytes = c.args.bytes.now in
    let index = c.loop-byte.byte-index in
    let place = c.loop-byte.place in
    let next = c.next-place.ensures in
    let line = next_line place (get_or bytes index 0) in
    let column = next_column place (get_or bytes index 0) in
    let lines = ap (λ (p : Place). p.line) next in
    let columns = ap (λ (p : Place). p.column) next in
    let within = c.loop-byte.invariant in
    record {
      line = omega (arith, within.line);
      column = omega (arith, within.column);
      rest = ap (λ p. place_past p (drop (index + 1) bytes)) next ∙ (sym (past_more place bytes index c.loop-byte-test.true) ∙ within.rest);
    }

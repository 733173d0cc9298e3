use Rattle.std.proofs.Common.{◌≡◌, ◌+◌, ◌≤◌, drop}
use Rattle.hl_lexer.specs.Reading.{place_past}
use Rattle.hl_lexer.proofs.reader.past.Given as goal

abbrev pub invariant-loop-byte : goal.invariant-loop-byte
invariant-loop-byte l = record {
  line : l.place.line ≤ l.fn.place.line + l.byte-index;
  column : l.place.column ≤ l.fn.place.column + l.byte-index;
  rest : place_past l.place (drop l.byte-index l.bytes) ≡ place_past l.fn.place l.bytes;
}

use Rattle.std.proofs.Common.{take}
use Rattle.std.specs.List.{AllPass}
use Rattle.hl_lexer.specs.Bytes.{is_no_line_feed}
use Rattle.hl_lexer.proofs.space.line_length.Given as goal

abbrev pub invariant-loop-index : goal.invariant-loop-index
invariant-loop-index l = AllPass is_no_line_feed (take l.index l.bytes)

use Rattle.std.proofs.Common.{take}
use Rattle.std.specs.List.{AllPass}
use Rattle.hl_lexer.specs.Bytes.{is_word_byte}
use Rattle.hl_lexer.proofs.front.word_length.Given as goal

abbrev pub invariant-loop-index : goal.invariant-loop-index
invariant-loop-index l = AllPass is_word_byte (take l.index l.rest)

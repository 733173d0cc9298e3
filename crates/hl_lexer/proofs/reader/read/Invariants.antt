use Rattle.std.proofs.Common.{◌≡◌, ◌-◌, length}
use Rattle.hl_lexer.specs.Reading.{HasRead}
use Rattle.hl_lexer.proofs.reader.read.Given as goal

abbrev pub invariant-loop-reader : goal.invariant-loop-reader
invariant-loop-reader l = record { read : HasRead l.reader; text : l.reader.text.now ≡ l.text }

abbrev pub decreases-loop-reader : goal.decreases-loop-reader
decreases-loop-reader l = length l.text - l.reader.start

use Rattle.hl_parser.specs.Parsing.{terminals_of}
use Rattle.hl_parser.proofs.ParseFacts.{Stands}
use Rattle.hl_parser.proofs.read.read.Given as goal

abbrev pub invariant-loop-at : goal.invariant-loop-at
invariant-loop-at l = Stands (terminals_of l.tokens) l.at l.parser l.next

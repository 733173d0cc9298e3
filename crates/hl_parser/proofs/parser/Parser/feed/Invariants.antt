use Rattle.std.proofs.Common.{length}
use Rattle.hl_parser.specs.Held.{Holds}
use Rattle.hl_parser.specs.Machine.{Kept}
use Rattle.hl_parser.proofs.FeedFacts.{GoesOn}
use Rattle.hl_parser.proofs.parser.Parser.feed.Given as goal

abbrev pub invariant-loop-symbol : goal.invariant-loop-symbol
invariant-loop-symbol l = (values : Kept) → Holds l.fn.self.values values → GoesOn l.fn.self l.self l.look.at l.look.terminal l.look.next values

abbrev pub decreases-loop-symbol : goal.decreases-loop-symbol
decreases-loop-symbol l = length l.self.pending

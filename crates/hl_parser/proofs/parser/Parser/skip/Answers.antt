use Rattle.std.proofs.Common.{rules, sym}
use denote.Enum.Bare.{same_true}
use Rattle.hl_lexer.specs.contracts.terminal.Terminal.{the_type}
use Rattle.hl_parser.proofs.FeedFacts.{skip_did}
use Rattle.hl_parser.proofs.parser.Parser.skip.Goals as goal

pub returns-then-eq : goal.returns-then-eq
returns-then-eq c =
    skip_did c.args.look.terminal c.args.terminal c.args.look.next c.args.look.at c.args.self.now c.reads.new.self c.reads.result
    (same_true the_type (search rules) _ _ (sym c.if-eq.ensures)) c.reads.ensures

use Rattle.std.proofs.Common.{◌∙◌, sym}
use Rattle.hl_parser.proofs.StackFacts.{statements_did}
use Rattle.hl_parser.proofs.parser.Parser.on_statements.Goals as goal

pub returns-in_ok-lead : goal.returns-in_ok-lead
returns-in_ok-lead c =
    statements_did c.args.look.terminal c.args.look.next c.args.look.at c.args.self.now c.lead.new.self c.on_statement.new.self c.on_statement.result
    (sym c.begins_statement.ensures ∙ c.if-begins_statement.true) c.in_ok-lead.ensures.pending c.in_ok-lead.ensures.values c.on_statement.ensures

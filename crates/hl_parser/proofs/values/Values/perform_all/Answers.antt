use Rattle.hl_parser.proofs.StackFacts.{performed_more}
use Rattle.hl_parser.proofs.values.Values.perform_all.Goals as goal

pub loop-act-preserved : goal.loop-act-preserved
loop-act-preserved c = performed_more _ _ _ _ _ _ _ c.loop-act-test.true c.loop-act.invariant c.in_ok-perform.ensures

use Rattle.std.proofs.Common.{arith}
use Rattle.hl_parser.proofs.StackFacts.{pushed}
use Rattle.hl_parser.proofs.pending.Pending.push.Goals as goal

pub loop-left-preserved : goal.loop-left-preserved
loop-left-preserved c = record {
  within = omega arith;
  pushed = pushed _ _ _ _ _ _ c.loop-left-test.true c.loop-left.invariant.within c.in_ok-push.ensures.ok c.loop-left.invariant.pushed;
}

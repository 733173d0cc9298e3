-- A piece that was given goes on from the front that was written.
use Rattle.std.proofs.Common.{arith}
use Rattle.base_core.proofs.Pieces.{given_more, given_within}
use Rattle.base_core.proofs.whole.write_whole.Goals as goal

pub loop-done-preserved : goal.loop-done-preserved
loop-done-preserved g c = record {
  appended = given_more _ _ _ c.args.bytes.now c.loop-done.done c.in_ok-done.field-0 c.loop-done.invariant.appended c.in_ok-done.ensures.bytes;
  within = given_within c.args.bytes.now c.loop-done.done c.in_ok-done.field-0 c.loop-done.invariant.within c.in_ok-done.ensures.within;
  lasting = omega arith;
}

use Rattle.std.proofs.Common.{◌+◌, refl}
use Rattle.bc_stream.proofs.RecordLemmas.{skipped_more, skipped_stop}
use Rattle.bc_stream.proofs.record.skip_values.Goals as goal

pub returns-in_default : goal.returns-in_default
returns-in_default c =
    skipped_stop c.args.bytes.now c.loop-index.index c.args.count c.args.at c.loop-index.to c.loop-index.invariant c.in_default.ensures c.loop-index-test.true

pub loop-index-preserved : goal.loop-index-preserved
loop-index-preserved c =
    skipped_more c.args.bytes.now c.loop-index.index c.args.at c.loop-index.to (c.loop-index.index + 1) c.in-Some.number c.loop-index.invariant c.in-Some.ensures refl

use Rattle.std.proofs.Common.{arith}
use Rattle.bc_stream.specs.Bits.{Fixed, Aligned}
use Rattle.bc_stream.proofs.WroteLemmas.{wrote_then, wrote_fixed}
use Rattle.bc_stream.proofs.write.put_leave.Goals as goal

pub returns-clause-wrote : goal.returns-clause-wrote
returns-clause-wrote c =
    wrote_then (Fixed 3 0) Aligned c.args.writer.now c.put.new.self c.align.new.self
    (wrote_fixed 3 0 c.args.writer.now c.put.new.self (omega arith) c.in_ok-put.ensures) c.in_ok-align.ensures.aligned

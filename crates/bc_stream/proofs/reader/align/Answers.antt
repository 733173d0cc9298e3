use Rattle.std.proofs.Common.{◌*◌, arith}
use Rattle.bc_stream.proofs.ReaderLemmas.{aligned_at, not_aligned}
use Rattle.bc_stream.proofs.reader.align.Goals as goal

pub returns-then-to-bytes : goal.returns-then-to-bytes
returns-then-to-bytes c =
    not_aligned c.args.bytes.now c.args.at (c.div_ceil-to.result * 32) c.requires.within (omega arith) (omega arith) (omega arith) (omega arith)

pub returns : goal.returns
returns c = aligned_at c.args.bytes.now c.args.at (c.div_ceil-to.result * 32) (omega arith) (omega arith) (omega arith) (omega arith)

use Rattle.std.proofs.Common.{arith}
use Rattle.bc_stream.proofs.ReaderLemmas.{fixed_of, no_fixed}
use Rattle.bc_stream.proofs.reader.read_fixed.Goals as goal

pub returns-then-bits_left-width : goal.returns-then-bits_left-width
returns-then-bits_left-width c =
    no_fixed c.args.bytes.now c.args.width c.args.at c.bits_left.result c.bits_left.ensures (omega arith)

pub returns-then-width-le-WINDOW_BITS : goal.returns-then-width-le-WINDOW_BITS
returns-then-width-le-WINDOW_BITS c =
    fixed_of c.args.bytes.now c.args.width c.args.at c.window.result c.lowest.result (omega arith) (omega arith) c.window.ensures c.lowest.ensures

use Rattle.std.proofs.Common.{arith}
use Rattle.bc_stream.proofs.ReaderLemmas.{front_of_eight}
use Rattle.bc_stream.proofs.reader.first_word.Goals as goal

pub returns-then-bytes-ge-WINDOW_BYTES : goal.returns-then-bytes-ge-WINDOW_BYTES
returns-then-bytes-ge-WINDOW_BYTES c =
    front_of_eight c.args.bytes.now c.read_u64.result c.if-bytes-ge-WINDOW_BYTES.true (λ i. omega (arith, c.type_inv.bytes i)) c.read_u64.ensures

use Rattle.std.proofs.Common.{◌+◌, ◌*◌, ◌%◌, ◌<◌, ◌^◌, Some, refl, arith}
use Rattle.std.proofs.lemmas.Nat.{one_shl}
use Rattle.bc_stream.proofs.ReaderLemmas.{fixed_behind}
use Rattle.bc_stream.proofs.ChunkLemmas.{with_chunk, chunk_more, chunks_end}
use Rattle.bc_stream.proofs.reader.read_short.Goals as goal

pub overflow_add-sum : goal.overflow_add-sum
overflow_add-sum c =
    let h = c.loop-used.invariant in
    let w = with_chunk c.args.unit c.loop-used.sum c.lowest-chunk.result c.lowest.result c.loop-used.shift c.loop-used.used c.lowest.ensures h.small h.few c.loop-used-test.true in
    omega (arith, w.fits)

pub returns-then-chunk-unit : goal.returns-then-chunk-unit
returns-then-chunk-unit c =
    let bytes = c.args.bytes.now in
    let unit = c.args.unit in
    let at = c.args.at in
    let used = c.loop-used.used in
    let sum = c.loop-used.sum in
    let shift = c.loop-used.shift in
    let chunk = c.lowest-chunk.result in
    let new = sum + c.lowest.result * 2 ^ shift % 2 ^ 64 in
    let h = c.loop-used.invariant in
    let w = with_chunk unit sum chunk c.lowest.result shift used c.lowest.ensures h.small h.few c.loop-used-test.true in
    let small : unit < 64 = omega arith in
    let read = fixed_behind bytes (unit + 1) at used c.args.bits chunk c.loop-used-test.true (omega arith) c.requires.bits c.lowest-chunk.ensures in
    chunks_end bytes unit at (at + used) sum shift chunk (at + (used + (unit + 1))) new (Some new) h.read read (omega (arith, one_shl unit 64 small, c.if-chunk-unit.true)) (omega arith) w.new-is (refl, w.fits)

pub loop-used-preserved : goal.loop-used-preserved
loop-used-preserved c =
    let bytes = c.args.bytes.now in
    let unit = c.args.unit in
    let at = c.args.at in
    let used = c.loop-used.used in
    let sum = c.loop-used.sum in
    let shift = c.loop-used.shift in
    let chunk = c.lowest-chunk.result in
    let new = sum + c.lowest.result * 2 ^ shift % 2 ^ 64 in
    let h = c.loop-used.invariant in
    let w = with_chunk unit sum chunk c.lowest.result shift used c.lowest.ensures h.small h.few c.loop-used-test.true in
    let small : unit < 64 = omega arith in
    let read = fixed_behind bytes (unit + 1) at used c.args.bits chunk c.loop-used-test.true (omega arith) c.requires.bits c.lowest-chunk.ensures in
    record {
      read = chunk_more bytes unit at (at + used) sum shift chunk (at + (used + (unit + 1))) new (shift + unit) h.read read (omega (arith, one_shl unit 64 small, c.if-chunk-unit.false)) (omega arith) w.new-is w.moved-is;
      small = w.small;
      within = c.loop-used-test.true;
      few = omega (arith, h.few);
    }

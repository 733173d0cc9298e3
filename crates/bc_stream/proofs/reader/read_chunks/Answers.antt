use Rattle.std.proofs.Common.{◌≡◌, ◌+◌, ◌*◌, ◌%◌, ◌<◌, ◌^◌, min, refl, ap, ◌∙◌, arith}
use Rattle.std.proofs.lemmas.Nat.{one_shl}
use Rattle.bc_stream.proofs.ChunkLemmas.{no_chunk_more, chunk_more, chunks_end}
use Rattle.bc_stream.proofs.reader.read_chunks.Goals as goal

pub returns-in_default : goal.returns-in_default
returns-in_default c =
    no_chunk_more c.args.bytes.now c.args.unit c.args.at c.loop-chunk.to c.loop-chunk.sum c.loop-chunk.shift c.loop-chunk.invariant c.in_default.ensures

pub returns-then-chunk-unit : goal.returns-then-chunk-unit
returns-then-chunk-unit c =
    let small : c.args.unit < 64 = omega arith in
    let sum = c.loop-chunk.sum in
    let shift = c.loop-chunk.shift in
    let new : c.with_chunk-sum.result ≡ min (sum + c.in-Some.chunk % 2 ^ c.args.unit * 2 ^ shift) (2 ^ 64) =
    c.with_chunk-sum.ensures ∙ ap (λ n. min (sum + n * 2 ^ shift) (2 ^ 64)) c.lowest.ensures in
    chunks_end c.args.bytes.now c.args.unit c.args.at c.loop-chunk.to sum shift c.in-Some.chunk (c.loop-chunk.to + (c.args.unit + 1)) c.with_chunk-sum.result c.in_long.result
    c.loop-chunk.invariant c.in-Some.ensures (omega (arith, one_shl c.args.unit 64 small)) refl new c.in_long.ensures

pub loop-chunk-preserved : goal.loop-chunk-preserved
loop-chunk-preserved c =
    let small : c.args.unit < 64 = omega arith in
    let sum = c.loop-chunk.sum in
    let shift = c.loop-chunk.shift in
    let new : c.with_chunk-sum.result ≡ min (sum + c.in-Some.chunk % 2 ^ c.args.unit * 2 ^ shift) (2 ^ 64) =
    c.with_chunk-sum.ensures ∙ ap (λ n. min (sum + n * 2 ^ shift) (2 ^ 64)) c.lowest.ensures in
    chunk_more c.args.bytes.now c.args.unit c.args.at c.loop-chunk.to sum shift c.in-Some.chunk (c.loop-chunk.to + (c.args.unit + 1)) c.with_chunk-sum.result c.min-shift.result
    c.loop-chunk.invariant c.in-Some.ensures (omega (arith, one_shl c.args.unit 64 small)) refl new (omega (arith, c.min-shift.ensures))

use Rattle.std.proofs.Common.{◌+◌, subst, arith}
use Rattle.bc_stream.specs.Reading.{FixedAt}
use Rattle.bc_stream.proofs.ReaderLemmas.{fixed_of, fixed_behind}
use Rattle.bc_stream.proofs.ChunkLemmas.{only_chunk}
use Rattle.bc_stream.proofs.few.read_head.Goals as goal

pub returns : goal.returns
returns c =
    let bytes = c.args.bytes.now in
    let at = c.args.at in
    let width = c.args.width in
    let bits = c.in-Some.bits in
    let code = c.in-Some-read_two.code in
    let count = c.lowest-count.result in
    let id : FixedAt bytes width at 3 = subst (FixedAt bytes width at) c.if-lowest-ne-UNABBREV_RECORD.false
    (fixed_of bytes width at bits c.lowest.result (omega arith) (omega (arith, c.in-Some.ensures.room)) c.in-Some.ensures.bits c.lowest.ensures) in
    let fixed = fixed_behind bytes 6 at code.used bits count (omega (arith, c.in-Some-read_two.ensures.used)) (omega (arith, c.in-Some-read_two.ensures.used, c.in-Some.ensures.room)) c.in-Some.ensures.bits c.lowest-count.ensures in
    record {
      behind = at + code.used;
      id = id;
      code = c.in-Some-read_two.ensures.number;
      count = only_chunk bytes 5 (at + code.used) count (at + (code.used + 6)) fixed (omega arith) (omega arith) (omega arith);
      small = c.in-Some-read_two.ensures.fits;
      few = omega arith;
    }

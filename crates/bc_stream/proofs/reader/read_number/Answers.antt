use Rattle.std.proofs.Common.{◌≡◌, ◌+◌, ◌*◌, ◌%◌, ◌<◌, ◌≤◌, ◌^◌, refl, ap, subst, sym, ◌∙◌, arith}
use Rattle.std.proofs.lemmas.Nat.{one_shl, shl_whole, mod_below, pow_pos, pow_below}
use Rattle.bc_stream.proofs.WriterLemmas.{both_below}
use Rattle.bc_stream.proofs.ReaderLemmas.{fixed_of, fixed_behind}
use Rattle.bc_stream.proofs.ChunkLemmas.{only_chunk, two_chunks}
use Rattle.bc_stream.proofs.reader.read_number.Goals as goal

pub returns-then-first-unit : goal.returns-then-first-unit
returns-then-first-unit c =
    let bytes = c.args.bytes.now in
    let unit = c.args.unit in
    let at = c.args.at in
    let small : unit < 64 = omega arith in
    let first = c.lowest-first.result in
    only_chunk bytes unit at first (at + (unit + 1))
    (fixed_of bytes (unit + 1) at c.in-Some.bits first (omega arith) (omega (arith, c.in-Some.ensures.room)) c.in-Some.ensures.bits c.lowest-first.ensures)
    (omega (arith, one_shl unit 64 small)) c.lowest-first.type_inv refl

pub returns-then-second-unit : goal.returns-then-second-unit
returns-then-second-unit c =
    let bytes = c.args.bytes.now in
    let unit = c.args.unit in
    let at = c.args.at in
    let small : unit < 64 = omega arith in
    let first = c.lowest-first.result in
    let second = c.lowest-second.result in
    let low = c.lowest.result in
    let flag : 2 ^ unit ≤ first = omega (arith, one_shl unit 64 small) in
    let below : second < 2 ^ unit = omega (arith, one_shl unit 64 small) in
    let number = low + second * 2 ^ unit % 2 ^ 64 in
    let whole : second * 2 ^ unit % 2 ^ 64 ≡ second * 2 ^ unit = shl_whole second unit unit 64 below (omega arith) in
    let low_below : low < 2 ^ unit = subst (λ n. n < 2 ^ unit) (sym c.lowest.ensures) (mod_below first (2 ^ unit) (pow_pos unit)) in
    let fits : number < 2 ^ 64 = omega (arith, whole, both_below low second unit unit low_below below, pow_below (unit + unit) 64 (omega arith)) in
    two_chunks bytes unit at first second number (at + 2 * (unit + 1))
    (fixed_of bytes (unit + 1) at c.in-Some.bits first (omega arith) (omega (arith, c.in-Some.ensures.room)) c.in-Some.ensures.bits c.lowest-first.ensures)
    (fixed_behind bytes (unit + 1) at (unit + 1) c.in-Some.bits second (omega arith) (omega (arith, c.in-Some.ensures.room)) c.in-Some.ensures.bits c.lowest-second.ensures)
    flag below (ap (λ n. n + second * 2 ^ unit % 2 ^ 64) c.lowest.ensures ∙ ap (λ n. first % 2 ^ unit + n) whole) fits refl

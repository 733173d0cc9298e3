use Rattle.std.proofs.Common.{◌≡◌, ◌+◌, ◌*◌, ◌%◌, ◌<◌, ◌≤◌, ◌^◌, ap, subst, sym, ◌∙◌, arith}
use Rattle.std.proofs.lemmas.Nat.{one_shl, shl_whole, mod_below, pow_pos, pow_below}
use Rattle.bc_stream.specs.Reading.{FixedAt}
use Rattle.bc_stream.proofs.WriterLemmas.{both_below}
use Rattle.bc_stream.proofs.ReaderLemmas.{fixed_behind}
use Rattle.bc_stream.proofs.ChunkLemmas.{only_chunk, two_chunks}
use Rattle.bc_stream.proofs.reader.read_two.Goals as goal

pub returns-then-first-unit-clause-number : goal.returns-then-first-unit-clause-number
returns-then-first-unit-clause-number c =
    let bytes = c.args.bytes.now in
    let unit = c.args.unit in
    let used = c.args.used in
    let from = c.args.at + used in
    let small : unit < 64 = omega arith in
    let first = c.lowest-first.result in
    only_chunk bytes unit from first (c.args.at + (used + (unit + 1)))
    (fixed_behind bytes (unit + 1) c.args.at used c.args.bits first (omega arith) (omega arith) c.requires.bits c.lowest-first.ensures)
    (omega (arith, one_shl unit 64 small)) c.lowest-first.type_inv (omega arith)

pub returns-then-second-unit-clause-number : goal.returns-then-second-unit-clause-number
returns-then-second-unit-clause-number c =
    let bytes = c.args.bytes.now in
    let unit = c.args.unit in
    let used = c.args.used in
    let from = c.args.at + used in
    let small : unit < 64 = omega arith in
    let first = c.lowest-first.result in
    let second = c.lowest-second.result in
    let low = c.lowest.result in
    let flag : 2 ^ unit ≤ first = omega (arith, one_shl unit 64 small) in
    let below : second < 2 ^ unit = omega (arith, one_shl unit 64 small) in
    let number = low + second * 2 ^ unit % 2 ^ 64 in
    let whole : second * 2 ^ unit % 2 ^ 64 ≡ second * 2 ^ unit = shl_whole second unit unit 64 below (omega arith) in
    let low_below : low < 2 ^ unit = subst (λ n. n < 2 ^ unit) (sym c.lowest.ensures) (mod_below first (2 ^ unit) (pow_pos unit)) in
    let fits : number < 2 ^ 64 = omega (arith, whole, both_below low second unit unit low_below below, pow_below (unit + unit) 64 (omega arith)) in
    let place : c.args.at + (used + (unit + 1)) ≡ from + (unit + 1) = omega arith in
    two_chunks bytes unit from first second number (c.args.at + (used + 2 * (unit + 1)))
    (fixed_behind bytes (unit + 1) c.args.at used c.args.bits first (omega arith) (omega arith) c.requires.bits c.lowest-first.ensures)
    (subst (λ n. FixedAt bytes (unit + 1) n second) place
    (fixed_behind bytes (unit + 1) c.args.at (used + (unit + 1)) c.args.bits second (omega arith) (omega arith) c.requires.bits c.lowest-second.ensures))
    flag below (ap (λ n. n + second * 2 ^ unit % 2 ^ 64) c.lowest.ensures ∙ ap (λ n. first % 2 ^ unit + n) whole) fits (omega arith)

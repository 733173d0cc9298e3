use Rattle.std.proofs.Common.{◌+◌, ◌-◌, ap, arith}
use Rattle.std.proofs.lemmas.Nat.{shl_whole}
use Rattle.bc_stream.proofs.ReaderLemmas.{fixed_of, fixed_of_two}
use Rattle.bc_stream.proofs.reader.read_long.Goals as goal

pub returns : goal.returns
returns c =
    let bytes = c.args.bytes.now in
    let width = c.args.width in
    let at = c.args.at in
    let low = c.lowest-low.result in
    let high = c.lowest-high.result in
    let front = fixed_of bytes 32 at c.window.result low (omega arith) (omega arith) c.window.ensures c.lowest-low.ensures in
    let back = fixed_of bytes (width - 32) (at + 32) c.window-2.result high (omega arith) (omega arith) c.window-2.ensures c.lowest-high.ensures in
    fixed_of_two bytes width at low high _ c.requires.long c.requires.limit front back
    (ap (λ h. low + h) (shl_whole high (width - 32) 32 64 back.reads.fits (omega arith)))

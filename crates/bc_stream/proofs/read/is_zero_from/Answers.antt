use Rattle.std.proofs.Common.{◌-◌, ◌/◌, List, ℕ, length, take, drop, get_or, ◌<◌, subst, sym, arith}
use Rattle.std.proofs.lemmas.List.{take_rest}
use Rattle.bc_stream.proofs.BodyLemmas.{zeros_from}
use Rattle.bc_stream.proofs.ReaderLemmas.{rest_bytes}
use Rattle.bc_stream.proofs.read.is_zero_from.Goals as goal

pub returns : goal.returns
returns c =
    let bytes = c.args.bytes.now in
    let start = c.args.at / 8 in
    let zeros = zeros_from bytes (take (length bytes - start) (drop start bytes)) c.args.at c.requires.on_byte (take_rest bytes start)
    (subst (λ (l : List ℕ). (i : ℕ) → get_or l i 0 < 256) (sym (take_rest bytes start)) (rest_bytes bytes start (λ i. omega (arith, c.type_inv.bytes i)))) in
    (λ h. zeros.0 (c.is_zero.ensures.0 h), λ h. c.is_zero.ensures.1 (zeros.1 h))

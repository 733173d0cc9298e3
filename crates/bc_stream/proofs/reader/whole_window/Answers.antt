use Rattle.std.proofs.Common.{◌-◌, ◌/◌, List, ℕ, length, take, drop, get_or, ◌<◌, subst, sym, arith}
use Rattle.std.proofs.lemmas.List.{take_rest}
use Rattle.bc_stream.specs.Reading.{IsFront}
use Rattle.bc_stream.proofs.ReaderLemmas.{front_of_eight, rest_bytes, window_of}
use Rattle.bc_stream.proofs.reader.whole_window.Goals as goal

pub returns-clause-bits : goal.returns-clause-bits
returns-clause-bits c =
    let bytes = c.args.bytes.now in
    let start = c.args.at / 8 in
    let rest = take_rest bytes start in
    let word = c.read_u64.result in
    let fits : (i : ℕ) → get_or (take (length bytes - start) (drop start bytes)) i 0 < 256 =
    subst (λ (l : List ℕ). (i : ℕ) → get_or l i 0 < 256) (sym rest) (rest_bytes bytes start (λ i. omega (arith, c.type_inv.bytes i))) in
    let front = front_of_eight (take (length bytes - start) (drop start bytes)) word c.if-rest-lt-WINDOW_BYTES.false fits c.read_u64.ensures in
    window_of bytes c.args.at word c.requires.within (subst (λ (l : List ℕ). IsFront l word) rest front)

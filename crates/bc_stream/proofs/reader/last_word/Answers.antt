use Rattle.std.proofs.Common.{ℕ, List, ◌++◌, length, drop, ap, arith}
use Rattle.std.specs.Prelude.{replicate}
use Rattle.bc_stream.proofs.ReaderLemmas.{front_of_last}
use Rattle.bc_stream.proofs.reader.last_word.Goals as goal

pub returns : goal.returns
returns c =
    let bytes = c.args.bytes.now in
    let pad : List ℕ = drop (length bytes) (replicate 8 0) in
    front_of_last bytes (c.copy_from_slice.new.self ++ pad) c.read_u64.result c.requires (λ i. omega (arith, c.type_inv.bytes i))
    (ap (λ l. l ++ pad) c.copy_from_slice.ensures.after) c.read_u64.ensures

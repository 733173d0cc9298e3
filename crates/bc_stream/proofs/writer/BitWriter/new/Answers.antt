use Rattle.std.proofs.Common.{ap, ◌∙◌, ◌++◌}
use Rattle.bc_stream.specs.Bits.{bits_of, low_bits}
use Rattle.bc_stream.proofs.BitLemmas.{bits_of-none, low_bits-none}
use Rattle.bc_stream.proofs.writer.BitWriter.new.Goals as goal

pub returns : goal.returns
returns c = ap (λ x. bits_of x ++ low_bits 0 0) c.new.ensures ∙ (ap (λ x. x ++ low_bits 0 0) bits_of-none ∙ low_bits-none 0)

use Rattle.std.proofs.Common.{take}
use Rattle.bc_stream.specs.Bits.{Vbrs}
use Rattle.bc_stream.specs.Writing.{Wrote}
use Rattle.bc_stream.proofs.write.put_values.Given as goal

abbrev pub invariant-loop-value : goal.invariant-loop-value
invariant-loop-value l = Wrote (Vbrs 6 (take l.value-index l.values)) l.fn.writer l.writer

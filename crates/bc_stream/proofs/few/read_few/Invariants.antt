use Rattle.std.proofs.Common.{◌≡◌, length, take}
use Rattle.bc_stream.specs.Reading.{ListAt}
use Rattle.bc_stream.proofs.few.read_few.Given as goal

abbrev pub invariant-loop-index : goal.invariant-loop-index
invariant-loop-index l = (length l.places ≡ 4) × ListAt l.bytes l.index l.head.to (take l.index l.places) l.to

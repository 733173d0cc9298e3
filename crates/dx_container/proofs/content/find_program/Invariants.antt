use Rattle.dx_container.proofs.Programs.{FoundBelow}
use Rattle.dx_container.proofs.content.find_program.Given as goal

abbrev pub invariant-loop-k : goal.invariant-loop-k
invariant-loop-k l = FoundBelow l.bytes l.k l.found

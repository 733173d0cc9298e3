use Rattle.hl_interpreter.specs.Registers.{HasAllBelow}
use Rattle.hl_interpreter.proofs.slots.free_register.Given as goal

abbrev pub invariant-loop-register : goal.invariant-loop-register
invariant-loop-register l = HasAllBelow l.taken l.class l.register

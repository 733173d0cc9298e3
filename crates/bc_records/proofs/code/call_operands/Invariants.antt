use Rattle.std.proofs.Common.{◌≡◌, ◌∷◌, ◌^◌, map, take}
use Rattle.bc_records.specs.Written.{relative, type_number}
use Rattle.bc_records.proofs.code.call_operands.Given as goal

abbrev pub invariant-loop-arg : goal.invariant-loop-arg
invariant-loop-arg l = l.values.items ≡ 0 ∷ 2 ^ 15 ∷ type_number l.module l.function ∷ relative l.next l.function ∷ map (relative l.next) (take l.arg-index l.args)

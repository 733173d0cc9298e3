use Rattle.std.proofs.Common.{◌≡◌, ◌++◌, drop}
use Rattle.hl_source.specs.Operations.{map_2}
use Rattle.hl_interpreter.specs.HeldWorks.{plain_two}
use Rattle.hl_interpreter.proofs.intrinsics.compute_each_pair.Given as goal

abbrev pub invariant-loop-at : goal.invariant-loop-at
invariant-loop-at l = l.result ++ map_2 (plain_two l.work l.kind) (drop l.at l.left) (drop l.at l.right) ≡ map_2 (plain_two l.work l.kind) l.left l.right

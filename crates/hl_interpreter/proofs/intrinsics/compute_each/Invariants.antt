use Rattle.std.proofs.Common.{◌≡◌, ◌++◌, drop, map}
use Rattle.hl_interpreter.specs.HeldWorks.{plain_one}
use Rattle.hl_interpreter.proofs.intrinsics.compute_each.Given as goal

abbrev pub invariant-loop-word : goal.invariant-loop-word
invariant-loop-word l = l.result ++ map (plain_one l.work l.kind) (drop l.word-index l.words) ≡ map (plain_one l.work l.kind) l.words

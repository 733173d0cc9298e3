use Rattle.std.proofs.Common.{◌≡◌, ◌++◌, drop, map}
use Rattle.hl_meaning.specs.Views.{plain_expr}
use Rattle.hl_inline.specs.InlinedPrograms.{literals}
use Rattle.hl_inline.proofs.constants.literals.Given as goal

abbrev pub invariant-loop-index : goal.invariant-loop-index
invariant-loop-index l = map plain_expr l.parts ++ literals l.at (drop l.index l.kinds) (drop l.index l.words) ≡ literals l.at l.kinds l.words

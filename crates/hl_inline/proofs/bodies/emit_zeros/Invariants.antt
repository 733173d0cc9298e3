use Rattle.std.proofs.Common.{◌≡◌, ◌+◌, ◌++◌, None, drop, map}
use Rattle.hl_inline.specs.Building.{plain_code}
use Rattle.hl_inline.specs.FlatTrees.{flat_local}
use Rattle.hl_inline.proofs.bodies.emit_zeros.Given as goal

abbrev pub invariant-loop-number : goal.invariant-loop-number
invariant-loop-number l =
    plain_code l.code ++ map (λ variable. flat_local (l.context.first + variable) None) (drop l.number-index l.number-items) ≡
    plain_code l.initial.code ++ map (λ variable. flat_local (l.context.first + variable) None) l.number-items

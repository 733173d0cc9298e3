use Rattle.std.proofs.Common.{◌≡◌, map, take}
use Rattle.hl_meaning.specs.Views.{plain_variable}
use Rattle.hl_inline.specs.Building.{plain_fresh}
use Rattle.hl_inline.specs.Fresh.{nameless, with_variables}
use Rattle.hl_inline.proofs.fresh.Fresh.add_nameless.Given as goal

abbrev pub invariant-loop-variable : goal.invariant-loop-variable
invariant-loop-variable l = plain_fresh l.self ≡ with_variables (map nameless (map plain_variable (take l.variable-index l.variables))) (plain_fresh l.initial.self)

use Rattle.std.proofs.Common.{◌≡◌, map, take}
use Rattle.hl_meaning.specs.Views.{plain_variable}
use Rattle.hl_inline.proofs.parts.copied_variables.Given as goal

abbrev pub invariant-loop-variable : goal.invariant-loop-variable
invariant-loop-variable l = map plain_variable l.copies ≡ map plain_variable (take l.variable-index l.variable-items)

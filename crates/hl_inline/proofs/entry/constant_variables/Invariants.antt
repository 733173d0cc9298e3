use Rattle.std.proofs.Common.{◌≡◌, ◌++◌, drop, map}
use Rattle.hl_meaning.specs.Views.{plain_constant, plain_variable}
use Rattle.hl_inline.specs.Building.{constant_variables}
use Rattle.hl_inline.proofs.entry.constant_variables.Given as goal

abbrev pub invariant-loop-constant : goal.invariant-loop-constant
invariant-loop-constant l =
    map plain_variable l.variables ++ constant_variables (map plain_constant (drop l.constant-index l.constants)) ≡ constant_variables (map plain_constant l.constants)

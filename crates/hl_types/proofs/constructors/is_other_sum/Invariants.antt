use Rattle.std.proofs.Common.{◌≡◌, ◌*◌, ◌≤◌, drop, map}
use Rattle.hl_rules.specs.Values.{argument_types}
use Rattle.hl_values.specs.Views.{plain_value}
use Rattle.hl_types.proofs.ConstructorLemmas.{components_on}
use Rattle.hl_types.proofs.constructors.is_other_sum.Given as goal

abbrev pub invariant-loop-arg : goal.invariant-loop-arg
invariant-loop-arg l =
    (components_on l.sum (argument_types (map plain_value (drop l.arg-index l.args))) ≡ components_on 0 (argument_types (map plain_value l.args)))
    × (l.sum ≤ 255 * l.arg-index)

use Rattle.std.proofs.Common.{◌≡◌, drop, map}
use Rattle.std.specs.Prelude.{is_some}
use Rattle.hl_rules.specs.Values.{argument_types}
use Rattle.hl_values.specs.Views.{plain_value}
use Rattle.hl_values.proofs.methods.have_types.Given as goal

abbrev pub invariant-loop-arg : goal.invariant-loop-arg
invariant-loop-arg l = is_some (argument_types (map plain_value (drop l.arg-index l.args))) ≡ is_some (argument_types (map plain_value l.args))

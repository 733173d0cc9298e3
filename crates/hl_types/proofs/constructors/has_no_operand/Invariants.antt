use Rattle.std.proofs.Common.{◌≡◌, drop, map}
use Rattle.std.specs.List.{list_any}
use Rattle.hl_rules.specs.Values.{is_no_operand}
use Rattle.hl_values.specs.Views.{plain_value}
use Rattle.hl_types.proofs.constructors.has_no_operand.Given as goal

abbrev pub invariant-loop-arg : goal.invariant-loop-arg
invariant-loop-arg l =
    list_any (λ v. is_no_operand v.ty) (map plain_value (drop l.arg-index l.args)) ≡ list_any (λ v. is_no_operand v.ty) (map plain_value l.args)

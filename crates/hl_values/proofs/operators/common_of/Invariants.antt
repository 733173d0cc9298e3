use Rattle.std.proofs.Common.{◌≡◌, map, drop}
use Rattle.hl_meaning.specs.Views.{plain_ty}
use Rattle.hl_rules.specs.Operands.{common_behind, common_of}
use Rattle.hl_values.specs.Views.{plain_type_if}
use Rattle.hl_values.proofs.operators.common_of.Given as goal

abbrev pub invariant-loop-ty : goal.invariant-loop-ty
invariant-loop-ty l = common_behind (plain_type_if l.common) (map plain_ty (drop l.ty-index l.rest)) ≡ common_of (map plain_ty l.types)

use Rattle.std.proofs.Common.{◌≡◌, map, take}
use Rattle.hl_meaning.specs.Views.{plain_ty}
use Rattle.hl_rules.specs.Nodes.{type_of_code}
use Rattle.hl_values.specs.Views.{plain_code}
use Rattle.hl_values.proofs.intrinsic_calls.code_types.Given as goal

abbrev pub invariant-loop-code : goal.invariant-loop-code
invariant-loop-code l = map plain_ty l.types ≡ map type_of_code (map plain_code (take l.code-index l.codes))

use Rattle.std.proofs.Common.{◌≡◌, drop, map}
use Rattle.hl_meaning.specs.Views.{plain_ty}
use Rattle.hl_values.specs.Arguments.{typed_as}
use Rattle.hl_values.specs.Few.{each}
use Rattle.hl_values.proofs.EachLemmas.{before}
use Rattle.hl_values.proofs.intrinsic_calls.argument_types.Given as goal

abbrev pub invariant-loop-arg : goal.invariant-loop-arg
invariant-loop-arg l = before (map plain_ty l.types) (each typed_as (drop l.arg-index l.args)) ≡ each typed_as l.args

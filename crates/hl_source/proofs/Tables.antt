-- The tables have a row for each intrinsic function and for each operator, and no others.
use Rattle.std.specs.Prelude.{◌≡◌, ◌++◌, length, map, refl}
use Rattle.hl_meaning.specs.Intrinsics.{intrinsics}
use Rattle.hl_meaning.specs.Operators.{comparing, computing, joining}
use Rattle.hl_source.specs.Intrinsics.{works}
use Rattle.hl_source.specs.Operations.{binary_operators}

one_work_for_each : length works ≡ length intrinsics
one_work_for_each = refl

one_operator_for_each : map (λ o. o.mark) binary_operators ≡ computing ++ (comparing ++ joining)
one_operator_for_each = refl

use Rattle.std.proofs.Common.{◌≡◌, map, replicate}
use Rattle.hl_meaning.specs.Views.{plain_ty}
use Rattle.hl_values.proofs.passing.repeated.Given as goal

abbrev pub invariant-loop-place : goal.invariant-loop-place
invariant-loop-place l = map plain_ty l.types ≡ replicate l._place (plain_ty l.ty)

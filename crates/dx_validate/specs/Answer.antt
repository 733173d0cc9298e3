-- The answers of the validator, by the verdict.
use Rattle.std.specs.Prelude.{◌≡◌, ℕ, Option, Some, None, Result, Ok, Err}
use Rattle.ir_core.specs.declared.module.Module.{Module}
use Rattle.ir_core.specs.declared.spot.Spot.{Spot}
use Rattle.dx_validate.specs.declared.verdict.Invalid.{Invalid}
use Rattle.dx_validate.specs.declared.verdict.Invalid.TheVariants.{Broken, Memory}
use Rattle.dx_validate.specs.Verdict.{IsSpotless, IsVerdict}

-- a verdict where there is one, and none where no rule is broken
abbrev pub IsAnswerOf : Module → Option (ℕ × Spot) → Type 0
IsAnswerOf m None = IsSpotless m
IsAnswerOf m (Some found) = IsVerdict m found.0 found.1

-- the module itself where no rule is broken; the verdict with the module otherwise
abbrev pub IsValidated : Module → Result Module Invalid → Type 0
IsValidated m (Ok checked) = (checked ≡ m) × IsSpotless m
IsValidated m (Err (Broken rule spot back)) = (back ≡ m) × IsVerdict m rule spot
IsValidated m (Err (Memory back)) = back ≡ m

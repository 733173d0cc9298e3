-- The rule on bodies, over the tables of a module.
use Rattle.std.specs.Prelude.{◌≡◌, ℕ, ◌<◌, ◌⊎◌, List, Option, Some, None, slice_get}
use Rattle.ir_core.specs.declared.module.Function.{Function}
use Rattle.ir_core.specs.declared.module.Ty.{Ty}
use Rattle.dx_validate.specs.declared.rules.BodyFault.{BodyFault}
use Rattle.dx_validate.specs.declared.rules.BodyFault.TheVariants.{Missing, At}
use Rattle.ir_core.specs.ValidatorRules.{HasBody, HasBodyAt, IsPlain}

-- a body stands there that breaks the rule: an earlier one is there, or it isn't plain
abbrev pub IsWrongAt : List Ty → List Function → ℕ → Type 0
IsWrongAt types functions place = (function : Function) × (slice_get functions place ≡ Some function) × HasBody function
    × (((earlier : ℕ) × (earlier < place) × HasBodyAt functions earlier) ⊎ (¬ IsPlain types function.ty))

abbrev pub IsFirstBodyFault : List Ty → List Function → Option BodyFault → Type 0
IsFirstBodyFault types functions None = ((place : ℕ) × HasBodyAt functions place) × ((place : ℕ) → IsWrongAt types functions place → ⊥)
IsFirstBodyFault types functions (Some Missing) = (place : ℕ) → HasBodyAt functions place → ⊥
IsFirstBodyFault types functions (Some (At first)) = IsWrongAt types functions first × ((place : ℕ) → place < first → IsWrongAt types functions place → ⊥)

-- the fault's place is below a number of functions
abbrev pub IsWithin : ℕ → BodyFault → Type 0
IsWithin count Missing = Unit {0}
IsWithin count (At place) = place < count

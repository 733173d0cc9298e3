-- What the validator answers.
use Rattle.std.specs.Prelude.{◌≡◌, ℕ, ◌<◌, ◌≤◌, ◌⊎◌}
use Rattle.ir_core.specs.declared.module.Module.{Module}
use Rattle.ir_core.specs.declared.spot.Spot.{Spot}
use Rattle.ir_core.specs.ValidatorRules.{Breaks}

-- the module breaks no rule
abbrev pub IsSpotless : Module → Type 0
IsSpotless m = (rule : ℕ) (spot : Spot) → Breaks m rule spot → ⊥

-- spots in order of their fields
abbrev pub IsAtOrBefore : Spot → Spot → Type 0
IsAtOrBefore a b = (a.part < b.part) ⊎ ((a.part ≡ b.part) × ((a.first < b.first) ⊎ ((a.first ≡ b.first) × (a.second ≤ b.second))))

-- the least rule that is broken, at its first spot
pub record IsVerdict (m : Module) (rule : ℕ) (spot : Spot) : Type 0 where
  pub broken : Breaks m rule spot
  pub least : (other : ℕ) (there : Spot) → Breaks m other there → rule ≤ other
  pub first : (there : Spot) → Breaks m rule there → IsAtOrBefore spot there

-- Places of a list at which a fact fails, for the searches of the validator.
use Rattle.std.specs.Prelude.{◌≡◌, ℕ, ◌<◌, List, Option, Some, slice_get, MatchOption}
use Rattle.ir_core.specs.declared.module.Named.{Named}
use Rattle.ir_core.specs.declared.module.Ty.{Ty}
use Rattle.ir_core.specs.declared.module.Ty.TheVariants.{Int}
use Rattle.ir_core.specs.ValidatorRules.{IsKnownName, IsWidth}

-- the fact fails of the part at that place
abbrev pub FailsAt : {A : Type 0} → (A → Type 0) → List A → ℕ → Type 0
FailsAt {A} Fact parts place = (part : A) × (slice_get parts place ≡ Some part) × (¬ Fact part)

-- the first place at which the fact fails, or none where it holds of each part
abbrev pub IsFirstFailure : {A : Type 0} → (A → Type 0) → List A → Option ℕ → Type 0
IsFirstFailure {A} Fact parts found =
    MatchOption found ((place : ℕ) → FailsAt Fact parts place → ⊥) (λ first. FailsAt Fact parts first × ((place : ℕ) → place < first → FailsAt Fact parts place → ⊥))

abbrev pub HasKnownName : Named → Type 0
HasKnownName named = IsKnownName named.name

abbrev pub HasFineWidth : Ty → Type 0
HasFineWidth (Int width) = IsWidth width
HasFineWidth _ = Unit {0}

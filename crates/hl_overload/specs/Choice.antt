-- Which candidate a call means (HLSL, "Overload Resolution"): the one of the least sum of costs.
use Rattle.std.specs.Prelude.{◌≡◌, ℕ, ◌+◌, ◌<◌, ◌≤◌, ◌⊎◌, List, [], ◌∷◌, map, if◌then◌else◌, Option, Some, None, slice_get}
use Rattle.std.specs.declared.result.Result.{Result}
use Rattle.std.specs.declared.result.Result.TheVariants.{Ok, Err}
use Rattle.hl_meaning.specs.declared.program.Copying.{Copying}
use Rattle.hl_meaning.specs.declared.program.Copying.TheVariants.{CopyIn}
use Rattle.hl_meaning.specs.Types.{Ty, ty_eq}
use Rattle.hl_meaning.specs.Conversions.{conversion_cost}
use Rattle.hl_overload.specs.declared.choice.ChoiceFault.{ChoiceFault}
use Rattle.hl_overload.specs.declared.choice.ChoiceFault.TheVariants.{NoMatch, Ambiguous}

pub record Param : Type 0 where
  pub ty : Ty
  pub copying : Copying

-- An `in` argument converts to the parameter's type; an `out` or `inout` argument has exactly that type.
abbrev pub passing_cost : Copying → (param arg : Ty) → Option ℕ
passing_cost CopyIn param arg = conversion_cost arg param
passing_cost _ param arg = if ty_eq arg param then Some 0 else None

-- both costs together, where both are there
abbrev pub add_costs : Option ℕ → Option ℕ → Option ℕ
add_costs (Some m) (Some n) = Some (m + n)
add_costs _ _ = None

-- The sum of the costs of a candidate that fits: it has as many parameters as there are arguments, and each argument
-- fits its parameter.
abbrev pub sum_of_costs : List Param → List Ty → Option ℕ
sum_of_costs [] [] = Some 0
sum_of_costs (p ∷ params) (arg ∷ args) = add_costs (passing_cost p.copying p.ty arg) (sum_of_costs params args)
sum_of_costs _ _ = None

-- the sums of the candidates, in order, where they fit
abbrev pub sums_of : List (List Param) → List Ty → List (Option ℕ)
sums_of candidates args = map (λ params. sum_of_costs params args) candidates

-- the candidate at a place fits with a sum
abbrev pub Fits : List (Option ℕ) → (place sum : ℕ) → Type 0
Fits sums place sum = slice_get sums place ≡ Some (Some sum)

-- no candidate fits
abbrev pub IsNoMatch : List (Option ℕ) → Type 0
IsNoMatch sums = (place sum : ℕ) → Fits sums place sum → ⊥

-- no sum is less
abbrev pub IsLeast : List (Option ℕ) → ℕ → Type 0
IsLeast sums least = (place sum : ℕ) → Fits sums place sum → least ≤ sum

-- the one candidate of the least sum
pub record IsChosen (sums : List (Option ℕ)) (place : ℕ) : Type 0 where
  pub sum : ℕ
  pub fits : Fits sums place sum
  pub least : IsLeast sums sum
  pub alone : (other : ℕ) → Fits sums other sum → other ≡ place

-- the first two candidates of the least sum
pub record IsAmbiguous (sums : List (Option ℕ)) (first second : ℕ) : Type 0 where
  pub sum : ℕ
  pub first_fits : Fits sums first sum
  pub second_fits : Fits sums second sum
  pub in_order : first < second
  pub least : IsLeast sums sum
  pub first_two : (other : ℕ) → Fits sums other sum → (other ≡ first) ⊎ (second ≤ other)

-- what an answer says
abbrev pub Chooses : List (Option ℕ) → Result ℕ ChoiceFault → Type 0
Chooses sums (Ok place) = IsChosen sums place
Chooses sums (Err NoMatch) = IsNoMatch sums
Chooses sums (Err (Ambiguous first second)) = IsAmbiguous sums first second

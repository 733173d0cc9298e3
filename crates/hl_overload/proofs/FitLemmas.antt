-- Sums of costs, argument by argument.
use Rattle.std.proofs.Common.{◌≡◌, ◌≢◌, ◌∙◌, refl, ap, ℕ, suc, List, [], ◌∷◌, length, drop, Option, None, Some}
use Rattle.hl_meaning.specs.declared.ty.HlType.{HlType}
use Rattle.hl_meaning.specs.Types.{Ty}
use Rattle.hl_overload.specs.declared.choice.Param.{Param}
use Rattle.hl_overload.specs.Choice as plain
use Rattle.hl_overload.specs.Choice.{add_costs, passing_cost, sum_of_costs}
use Rattle.hl_overload.specs.Views.{plain_params, plain_types}

-- the sum of the arguments from a place on
abbrev pub sum_from : ℕ → List Param → List HlType → Option ℕ
sum_from i params args = sum_of_costs (plain_params (drop i params)) (plain_types (drop i args))

-- other lengths don't fit
pub sum_of_costs-lengths : (params : List plain.Param) (args : List Ty) → length params ≢ length args → sum_of_costs params args ≡ None
sum_of_costs-lengths [] [] other = absurd (other refl)
sum_of_costs-lengths [] (a ∷ args) other = refl
sum_of_costs-lengths (p ∷ params) [] other = refl
sum_of_costs-lengths (p ∷ params) (a ∷ args) other =
    ap (λ o. add_costs (passing_cost p.copying p.ty a) o) (sum_of_costs-lengths params args (λ same. other (ap suc same))) ∙ none_right (passing_cost p.copying p.ty a)
  where
    none_right : (o : Option ℕ) → add_costs o None ≡ None
    none_right None = refl
    none_right (Some n) = refl

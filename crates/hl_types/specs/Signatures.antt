-- Functions of a name with parameters of the same types.
use Rattle.std.specs.Prelude.{ℕ, ◌||◌, Bool, false, List, [], ◌∷◌, Option, None, Some, map, slice_get}
use Rattle.hl_rules.specs.DeclarationRules.{have_same_types}
use Rattle.hl_rules.specs.Scopes.{ParamInfo}
use Rattle.hl_values.specs.declared.scope.FunctionInfo.{FunctionInfo}
use Rattle.hl_values.specs.ScopeViews.{plain_param}

-- whether a function is there and has such parameters
abbrev pub is_same_entry : List ParamInfo → Option (List ℕ × FunctionInfo) → Bool
is_same_entry params None = false
is_same_entry params (Some f) = have_same_types (map plain_param f.1.params) params

abbrev pub is_same_at : List (List ℕ × FunctionInfo) → List ParamInfo → ℕ → Bool
is_same_at functions params at = is_same_entry params (slice_get functions at)

-- whether the function at one of some positions has
abbrev pub any_same : List (List ℕ × FunctionInfo) → List ParamInfo → List ℕ → Bool
any_same functions params [] = false
any_same functions params (at ∷ positions) = is_same_at functions params at || any_same functions params positions

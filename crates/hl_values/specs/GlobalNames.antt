-- Entries that are no functions.
use Rattle.std.specs.Prelude.{ℕ, ◌||◌, not, Bool, false, List, [], ◌∷◌, Option, None, Some, slice_get}
use Rattle.hl_rules.specs.DeclarationRules.{is_function_sort}
use Rattle.hl_values.specs.declared.scope.Sort.{Sort}
use Rattle.hl_values.specs.ScopeViews.{plain_sort}

-- whether an entry is there and no function
abbrev pub is_other_entry : Option (List ℕ × Sort) → Bool
is_other_entry None = false
is_other_entry (Some e) = not (is_function_sort (plain_sort e.1))

abbrev pub is_other_at : List (List ℕ × Sort) → ℕ → Bool
is_other_at names at = is_other_entry (slice_get names at)

-- whether one of some positions has such an entry
abbrev pub any_other : List (List ℕ × Sort) → List ℕ → Bool
any_other names [] = false
any_other names (at ∷ positions) = is_other_at names at || any_other names positions

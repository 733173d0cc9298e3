-- The threads that attributes give.
use Rattle.std.specs.Prelude.{ℕ, List, [], ◌∷◌, Option, None, Some, if◌then◌else◌}
use Rattle.hl_parser.specs.Trees.{Tree, Trees, an_attribute}
use Rattle.hl_rules.specs.Elaboration.{attribute_threads, thread_numbers}
use Rattle.hl_rules.specs.Scopes.{Scope}
use Rattle.hl_rules.specs.Sites.{is_numthreads}

-- three numbers alone
abbrev pub only_three : Option (List ℕ) → Option (List ℕ)
only_three (Some (x ∷ y ∷ z ∷ [])) = Some (x ∷ y ∷ z ∷ [])
only_three _ = None

abbrev pub three_numbers : Scope → Trees → Option (List ℕ)
three_numbers s arguments = only_three (thread_numbers s arguments)

abbrev pub group_threads : Scope → Trees → Option (List ℕ)
group_threads s attributes = only_three (attribute_threads s attributes)

-- the arguments of an attribute that is a `numthreads`
abbrev pub numthreads_in : Scope → Tree → Option Trees
numthreads_in s (an_attribute at name arguments) = if is_numthreads s name then Some arguments else None
numthreads_in s _ = None

-- Short lists, taken apart.
use Rattle.std.specs.Prelude.{List, [], ◌∷◌, Option, None, Some, option_and_then, option_map}

abbrev pub one_of : {A : Type 0} → List A → Option A
one_of (x ∷ []) = Some x
one_of _ = None

abbrev pub two_of : {A : Type 0} → List A → Option (A × A)
two_of (x ∷ y ∷ []) = Some (x, y)
two_of _ = None

abbrev pub first_and_rest : {A : Type 0} → List A → Option (A × List A)
first_and_rest [] = None
first_and_rest (x ∷ xs) = Some (x, xs)

-- what all of several become, where each becomes something
abbrev pub each : {A B : Type 0} → (A → Option B) → List A → Option (List B)
each f [] = Some []
each f (x ∷ xs) = option_and_then (λ y. option_map (λ ys. y ∷ ys) (each f xs)) (f x)

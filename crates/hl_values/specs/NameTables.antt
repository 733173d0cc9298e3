-- Names in order, each with what it stands for.
use Rattle.std.specs.Prelude.{ℕ, suc, List, [], ◌∷◌, Bool, Option, if◌then◌else◌, find, option_map, bytes_eq}

-- whether the name of an entry is this one
abbrev pub is_named : {T : Type 0} → List ℕ → List ℕ × T → Bool
is_named name e = bytes_eq e.0 name

-- what the first entry of a name stands for
abbrev pub first_named : {T : Type 0} → List (List ℕ × T) → List ℕ → Option T
first_named table name = option_map (λ e. e.1) (find (is_named name) table)

-- the positions of the entries of a name, counted from a first one
abbrev pub positions_from : {T : Type 0} → ℕ → List ℕ → List (List ℕ × T) → List ℕ
positions_from at name [] = []
positions_from at name (e ∷ table) =
    if is_named name e then at ∷ positions_from (suc at) name table else positions_from (suc at) name table

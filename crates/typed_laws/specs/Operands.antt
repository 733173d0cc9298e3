-- The expressions in a place: its indexes, in the order in which they are evaluated.
use Rattle.std.specs.Prelude.{List, [], ◌∷◌, ◌++◌}
use Rattle.hl_meaning.specs.Trees.{Expr, Location, PathParts, Root, Target, a_location, bytes_target, element_root, index_part, more_parts, no_parts, place_target}

abbrev pub root_exprs : Root → List Expr
root_exprs (element_root resource index) = index ∷ []
root_exprs _ = []

abbrev pub parts_exprs : PathParts → List Expr
parts_exprs no_parts = []
parts_exprs (more_parts (index_part index) rest) = index ∷ parts_exprs rest
parts_exprs (more_parts part rest) = parts_exprs rest

abbrev pub place_exprs : Location → List Expr
place_exprs (a_location ty root parts) = root_exprs root ++ parts_exprs parts

abbrev pub target_exprs : Target → List Expr
target_exprs (place_target place) = place_exprs place
target_exprs (bytes_target resource address) = address ∷ []

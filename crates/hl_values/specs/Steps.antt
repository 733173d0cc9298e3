-- Steps that may be one.
use Rattle.std.specs.Prelude.{ℕ, List, [], ◌∷◌, Option, None, Some, slice_index_or}
use Rattle.hl_meaning.specs.Types.{Ty, array_type, scalar_type, vector_type}
use Rattle.hl_meaning.specs.Trees.{Expr, PathPart, PathParts, an_expr, literal_form, more_parts, no_parts, swizzle_part}

-- two steps behind one another, or the one swizzle that they are
abbrev pub joined_as : PathPart → PathPart → Option (List ℕ) → PathParts
joined_as before part None = more_parts before (more_parts part no_parts)
joined_as before part (Some letters) = more_parts (swizzle_part letters) no_parts

-- the letter that an index picks among several, where it is a literal
abbrev pub picked_as : List ℕ → Expr → Option (List ℕ)
picked_as letters (an_expr ty at (literal_form number)) = Some (slice_index_or letters number 0 ∷ [])
picked_as letters _ = None

-- the type of the elements of an array or a vector
abbrev pub element_of : Ty → Option Ty
element_of (array_type element size) = Some element
element_of (vector_type kind size) = Some (scalar_type kind)
element_of _ = None

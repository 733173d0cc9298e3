-- The operands of a form of expression, and the form with others in their place.
use Rattle.std.specs.Prelude.{ℕ, ◌+◌, List, [], ◌∷◌, drop, length}
use Rattle.hl_meaning.specs.Types.{void_type}
use Rattle.hl_meaning.specs.Trees.{Expr, Form, Location, MaybeExpr, MaybeLocation, PathParts, Root, Target, a_location, an_expr, atomic_form, binary_form, build_form, bytes_target, call_form, choose_form, constant_root, convert_form, element_root, index_part, intrinsic_form, literal_form, member_part, method_form, more_parts, no_expr, no_location, no_parts, pick_form, place_target, read_form, shared_root, some_expr, some_location, swizzle_part, unary_form, variable_root, write_form}
use Rattle.hl_meaning.specs.Views.{exprs_of}
use Rattle.typed_laws.specs.Operands.{place_exprs, target_exprs}

-- the first of some expressions; where there is none, one that isn't well formed
abbrev pub first_expr : List Expr → Expr
first_expr [] = an_expr void_type 0 (literal_form 0)
first_expr (value ∷ rest) = value

-- Forms over the variables of a program without calls: the variable of a number stands `first` further, and a constant
-- is the variable of its number. The expressions take the place of the operands.

abbrev pub filled_root : (first : ℕ) → Root → List Expr → Root
filled_root first (variable_root number) es = variable_root (first + number)
filled_root first (constant_root number) es = variable_root number
filled_root first (shared_root number) es = shared_root number
filled_root first (element_root resource index) es = element_root resource (first_expr es)

abbrev pub behind_root : Root → List Expr → List Expr
behind_root (element_root resource index) es = drop 1 es
behind_root _ es = es

abbrev pub filled_parts : PathParts → List Expr → PathParts
filled_parts no_parts es = no_parts
filled_parts (more_parts (index_part index) rest) es = more_parts (index_part (first_expr es)) (filled_parts rest (drop 1 es))
filled_parts (more_parts (member_part number) rest) es = more_parts (member_part number) (filled_parts rest es)
filled_parts (more_parts (swizzle_part letters) rest) es = more_parts (swizzle_part letters) (filled_parts rest es)

abbrev pub filled_place : (first : ℕ) → Location → List Expr → Location
filled_place first (a_location ty root parts) es = a_location ty (filled_root first root es) (filled_parts parts (behind_root root es))

abbrev pub filled_place_if : (first : ℕ) → MaybeLocation → List Expr → MaybeLocation
filled_place_if first no_location es = no_location
filled_place_if first (some_location place) es = some_location (filled_place first place es)

abbrev pub filled_target : (first : ℕ) → Target → List Expr → Target
filled_target first (place_target place) es = place_target (filled_place first place es)
filled_target first (bytes_target resource address) es = bytes_target resource (first_expr es)

abbrev pub filled_expr_if : MaybeExpr → List Expr → MaybeExpr
filled_expr_if no_expr es = no_expr
filled_expr_if (some_expr value) es = some_expr (first_expr es)

abbrev pub behind_expr_if : MaybeExpr → List Expr → List Expr
behind_expr_if no_expr es = es
behind_expr_if (some_expr value) es = drop 1 es

abbrev pub behind_target : Target → List Expr → List Expr
behind_target target es = drop (length (target_exprs target)) es

-- a form that isn't a call
abbrev pub filled : (first : ℕ) → Form → List Expr → Form
filled first (literal_form word) es = literal_form word
filled first (read_form place) es = read_form (filled_place first place es)
filled first (write_form to op common value old) es =
    write_form (filled_place first to es) op common (first_expr (drop (length (place_exprs to)) es)) old
filled first (convert_form value) es = convert_form (first_expr es)
filled first (unary_form op value) es = unary_form op (first_expr es)
filled first (binary_form op left right) es = binary_form op (first_expr es) (first_expr (drop 1 es))
filled first (choose_form cond consequent alternative) es =
    choose_form (first_expr es) (first_expr (drop 1 es)) (first_expr (drop 2 es))
filled first (build_form parts) es = build_form (exprs_of es)
filled first (pick_form value parts) es = pick_form (first_expr es) parts
filled first (call_form function args) es = call_form function args
filled first (intrinsic_form number args) es = intrinsic_form number (exprs_of es)
filled first (method_form resource count address value) es =
    method_form resource count (first_expr es) (filled_expr_if value (drop 1 es))
filled first (atomic_form target kind compare value original) es =
    atomic_form (filled_target first target es) kind (filled_expr_if compare (behind_target target es))
    (first_expr (behind_expr_if compare (behind_target target es)))
    (filled_place_if first original (drop 1 (behind_expr_if compare (behind_target target es))))

-- Where the last call of an expression stands.
--
-- A path leads there. At each node on the way it has the number of the operand that the call stands in, counted from 1,
-- and the outermost node's number is its last. A node of one operand has no number. The path to a call is 0 alone,
-- whatever its arguments are, and the path of an expression without calls is empty.
use Rattle.std.specs.Prelude.{◌≡◌, ℕ, suc, Bool, true, false, ◌||◌, if◌then◌else◌, List, [], ◌∷◌, ◌++◌, IfSome}
use Rattle.hl_meaning.specs.Trees.{Expr, Exprs, Form, Location, MaybeExpr, MaybeLocation, PathPart, PathParts, Root, Target, a_location, an_expr, atomic_form, binary_form, build_form, bytes_target, call_form, choose_form, convert_form, element_root, index_part, intrinsic_form, literal_form, method_form, more_exprs, more_parts, no_expr, no_exprs, no_location, no_parts, pick_form, place_target, read_form, some_expr, some_location, unary_form, write_form}
use Rattle.hl_inline.specs.declared.last_call.Operand.{Operand}

-- whether there is a call
abbrev pub holds : (path : List ℕ) → Bool
holds [] = false
holds (number ∷ rest) = true

abbrev pub any_holds : (paths : List (List ℕ)) → Bool
any_holds [] = false
any_holds (path ∷ rest) = holds path || any_holds rest

-- the path of the operand of a number, from its node on
abbrev pub path_inside : (number : ℕ) → List ℕ → List ℕ
path_inside number path = if holds path then path ++ number ∷ [] else []

-- the path among operands of given paths, the first of which has the given number
abbrev pub path_from : (number : ℕ) → List (List ℕ) → List ℕ
path_from number [] = []
path_from number (path ∷ rest) = if any_holds rest then path_from (suc number) rest else path_inside number path

abbrev pub path_among : List (List ℕ) → List ℕ
path_among paths = path_from 1 paths

-- A place is one operand. Its own are the index of its root and those of its steps.
abbrev mutual
  pub expr_path : Expr → List ℕ
  expr_path (an_expr ty at form) = form_path form

  pub form_path : Form → List ℕ
  form_path (literal_form word) = []
  form_path (read_form place) = place_path place
  form_path (write_form to op common value old) = path_among (place_path to ∷ expr_path value ∷ [])
  form_path (convert_form value) = expr_path value
  form_path (unary_form op value) = expr_path value
  form_path (binary_form op left right) = path_among (expr_path left ∷ expr_path right ∷ [])
  form_path (choose_form cond consequent alternative) =
      path_among (expr_path cond ∷ expr_path consequent ∷ expr_path alternative ∷ [])
  form_path (build_form parts) = path_among (exprs_paths parts)
  form_path (pick_form value parts) = expr_path value
  form_path (call_form function args) = 0 ∷ []
  form_path (intrinsic_form number args) = path_among (exprs_paths args)
  form_path (method_form resource count address value) = path_among (expr_path address ∷ expr_if_path value ∷ [])
  form_path (atomic_form target kind compare value original) =
      path_among (target_path target ∷ expr_if_path compare ∷ expr_path value ∷ place_if_path original ∷ [])

  pub exprs_paths : Exprs → List (List ℕ)
  exprs_paths no_exprs = []
  exprs_paths (more_exprs first rest) = expr_path first ∷ exprs_paths rest

  pub place_path : Location → List ℕ
  place_path (a_location ty root parts) = path_among (root_path root ∷ parts_paths parts)

  pub root_path : Root → List ℕ
  root_path (element_root resource index) = expr_path index
  root_path _ = []

  pub parts_paths : PathParts → List (List ℕ)
  parts_paths no_parts = []
  parts_paths (more_parts first rest) = part_path first ∷ parts_paths rest

  pub part_path : PathPart → List ℕ
  part_path (index_part index) = expr_path index
  part_path _ = []

  pub target_path : Target → List ℕ
  target_path (place_target place) = place_path place
  target_path (bytes_target resource address) = expr_path address

  pub expr_if_path : MaybeExpr → List ℕ
  expr_if_path no_expr = []
  expr_if_path (some_expr value) = expr_path value

  pub place_if_path : MaybeLocation → List ℕ
  place_if_path no_location = []
  place_if_path (some_location place) = place_path place

-- a path was found, and stands behind the numbers before
abbrev pub Finds : (before now : List ℕ) → (found : Bool) → (path : List ℕ) → Type 0
Finds before now found path = (now ≡ before ++ path) × (found ≡ holds path)

-- what is known of an operand is right
abbrev pub Knows : Operand → (path : List ℕ) → Type 0
Knows operand path = IfSome operand.last_call (λ l. l.numbers.now ≡ path)

-- What is known of an operand of a path, behind which operands of other paths come. Where calls stand in those,
-- statements come behind it.
abbrev pub IsOperand : Operand → (further : Bool) → (path : List ℕ) → (behind : List (List ℕ)) → Type 0
IsOperand operand further path behind = (operand.further ≡ (further || any_holds behind)) × Knows operand path

-- The expressions that a form evaluates, in order.
use Rattle.std.specs.Prelude.{List, [], ◌∷◌, ◌++◌}
use Rattle.hl_meaning.specs.Trees.{Arg, Args, Expr, Exprs, Form, MaybeExpr, MaybeLocation, atomic_form, binary_form, build_form, call_form, choose_form, convert_form, intrinsic_form, literal_form, method_form, more_args, more_exprs, no_args, no_expr, no_exprs, no_location, pick_form, place_arg, read_form, some_expr, some_location, unary_form, value_arg, write_form}
use Rattle.typed_laws.specs.Operands.{place_exprs, target_exprs}

-- the expressions of a list
abbrev pub exprs_list : Exprs → List Expr
exprs_list no_exprs = []
exprs_list (more_exprs first rest) = first ∷ exprs_list rest

abbrev pub expr_if_list : MaybeExpr → List Expr
expr_if_list no_expr = []
expr_if_list (some_expr value) = value ∷ []

abbrev pub place_if_exprs : MaybeLocation → List Expr
place_if_exprs no_location = []
place_if_exprs (some_location place) = place_exprs place

abbrev pub arg_exprs : Arg → List Expr
arg_exprs (value_arg value) = value ∷ []
arg_exprs (place_arg place) = place_exprs place

abbrev pub args_exprs : Args → List Expr
args_exprs no_args = []
args_exprs (more_args first rest) = arg_exprs first ++ args_exprs rest

-- The expressions that a form evaluates, in order. The indexes in a part of a value that isn't a place are literals, and
-- are not evaluated.
abbrev pub operand_exprs : Form → List Expr
operand_exprs (literal_form word) = []
operand_exprs (read_form place) = place_exprs place
operand_exprs (write_form to op common value old) = place_exprs to ++ value ∷ []
operand_exprs (convert_form value) = value ∷ []
operand_exprs (unary_form op value) = value ∷ []
operand_exprs (binary_form op left right) = left ∷ right ∷ []
operand_exprs (choose_form cond consequent alternative) = cond ∷ consequent ∷ alternative ∷ []
operand_exprs (build_form parts) = exprs_list parts
operand_exprs (pick_form value parts) = value ∷ []
operand_exprs (call_form function args) = args_exprs args
operand_exprs (intrinsic_form number args) = exprs_list args
operand_exprs (method_form resource count address value) = address ∷ expr_if_list value
operand_exprs (atomic_form target kind compare value original) =
    target_exprs target ++ (expr_if_list compare ++ value ∷ place_if_exprs original)

-- The places and calls that occur in expressions and statements, in the order in which they run.
-- These definitions are this project's own: no public standard speaks of them.
use Rattle.std.specs.Prelude.{ℕ, List, [], ◌∷◌, ◌++◌, Option, None, Some}
use Rattle.hl_meaning.specs.Trees.{Arg, Args, Expr, Exprs, Form, Location, MaybeExpr, MaybeLocation, MaybeStmt, PathPart, PathParts, Root, Stmt, Stmts, Target, a_location, an_expr, atomic_form, binary_form, block_stmt, break_stmt, build_form, bytes_target, call_form, choose_form, continue_stmt, convert_form, do_stmt, element_root, for_stmt, if_stmt, index_part, intrinsic_form, literal_form, local_stmt, method_form, more_args, more_exprs, more_parts, more_stmts, no_args, no_expr, no_exprs, no_location, no_parts, no_stmt, no_stmts, pick_form, place_arg, place_target, read_form, return_stmt, run_stmt, some_expr, some_location, some_stmt, unary_form, value_arg, while_stmt, write_form}
use Rattle.hl_inline.specs.FlatTrees.{FlatStmt, FlatStmts, MaybeFlatStmt, flat_block, flat_if, flat_input, flat_leave, flat_local, flat_loop, flat_named, flat_run, more_flat_stmts, no_flat_stmt, no_flat_stmts, some_flat_stmt}

-- what occurs in code: a place, or a call of the function of a number
pub data Occurrence : Type 0 where
  place_occurrence : (root : Root) (parts : PathParts) → Occurrence
  call_occurrence : (function : ℕ) → Occurrence

abbrev mutual
  -- the places and calls in an expression
  pub expr_occurrences : Expr → List Occurrence
  expr_occurrences (an_expr ty at form) = form_occurrences form

  pub form_occurrences : Form → List Occurrence
  form_occurrences (literal_form word) = []
  form_occurrences (read_form place) = location_occurrences place
  form_occurrences (write_form to op common value old) = location_occurrences to ++ expr_occurrences value
  form_occurrences (convert_form value) = expr_occurrences value
  form_occurrences (unary_form op value) = expr_occurrences value
  form_occurrences (binary_form op left right) = expr_occurrences left ++ expr_occurrences right
  form_occurrences (choose_form cond consequent alternative) = expr_occurrences cond ++ (expr_occurrences consequent ++ expr_occurrences alternative)
  form_occurrences (build_form parts) = exprs_occurrences parts
  form_occurrences (pick_form value parts) = expr_occurrences value ++ parts_occurrences parts
  form_occurrences (call_form function args) = args_occurrences args ++ call_occurrence function ∷ []
  form_occurrences (intrinsic_form number args) = exprs_occurrences args
  form_occurrences (method_form resource count address value) = expr_occurrences address ++ expr_if_occurrences value
  form_occurrences (atomic_form target kind compare value original) =
      target_occurrences target ++ (expr_if_occurrences compare ++ (expr_occurrences value ++ location_if_occurrences original))

  pub location_occurrences : Location → List Occurrence
  location_occurrences (a_location ty root parts) = place_occurrence root parts ∷ (root_occurrences root ++ parts_occurrences parts)

  pub root_occurrences : Root → List Occurrence
  root_occurrences (element_root resource index) = expr_occurrences index
  root_occurrences _ = []

  pub parts_occurrences : PathParts → List Occurrence
  parts_occurrences no_parts = []
  parts_occurrences (more_parts first rest) = part_occurrences first ++ parts_occurrences rest

  pub part_occurrences : PathPart → List Occurrence
  part_occurrences (index_part index) = expr_occurrences index
  part_occurrences _ = []

  pub exprs_occurrences : Exprs → List Occurrence
  exprs_occurrences no_exprs = []
  exprs_occurrences (more_exprs first rest) = expr_occurrences first ++ exprs_occurrences rest

  pub args_occurrences : Args → List Occurrence
  args_occurrences no_args = []
  args_occurrences (more_args first rest) = arg_occurrences first ++ args_occurrences rest

  pub arg_occurrences : Arg → List Occurrence
  arg_occurrences (value_arg value) = expr_occurrences value
  arg_occurrences (place_arg place) = location_occurrences place

  pub target_occurrences : Target → List Occurrence
  target_occurrences (place_target place) = location_occurrences place
  target_occurrences (bytes_target resource address) = expr_occurrences address

  pub expr_if_occurrences : MaybeExpr → List Occurrence
  expr_if_occurrences no_expr = []
  expr_if_occurrences (some_expr value) = expr_occurrences value

  pub location_if_occurrences : MaybeLocation → List Occurrence
  location_if_occurrences no_location = []
  location_if_occurrences (some_location place) = location_occurrences place

abbrev pub expr_option_occurrences : Option Expr → List Occurrence
expr_option_occurrences None = []
expr_option_occurrences (Some value) = expr_occurrences value

abbrev mutual
  -- the places and calls in a statement
  pub stmt_occurrences : Stmt → List Occurrence
  stmt_occurrences (block_stmt body) = stmts_occurrences body
  stmt_occurrences (local_stmt variable init) = expr_option_occurrences init
  stmt_occurrences (run_stmt value) = expr_occurrences value
  stmt_occurrences (if_stmt cond consequent alternative) = expr_occurrences cond ++ (stmt_occurrences consequent ++ stmt_if_occurrences alternative)
  stmt_occurrences (for_stmt init cond step body) =
      stmts_occurrences init ++ (expr_option_occurrences cond ++ (expr_option_occurrences step ++ stmt_occurrences body))
  stmt_occurrences (while_stmt cond body) = expr_occurrences cond ++ stmt_occurrences body
  stmt_occurrences (do_stmt body cond) = stmt_occurrences body ++ expr_occurrences cond
  stmt_occurrences break_stmt = []
  stmt_occurrences continue_stmt = []
  stmt_occurrences (return_stmt value) = expr_option_occurrences value

  pub stmts_occurrences : Stmts → List Occurrence
  stmts_occurrences no_stmts = []
  stmts_occurrences (more_stmts first rest) = stmt_occurrences first ++ stmts_occurrences rest

  pub stmt_if_occurrences : MaybeStmt → List Occurrence
  stmt_if_occurrences no_stmt = []
  stmt_if_occurrences (some_stmt body) = stmt_occurrences body

abbrev mutual
  -- the places in a statement of a program without calls
  pub flat_stmt_occurrences : FlatStmt → List Occurrence
  flat_stmt_occurrences (flat_block body) = flat_stmts_occurrences body
  flat_stmt_occurrences (flat_input variable semantic) = []
  flat_stmt_occurrences (flat_local variable init) = expr_option_occurrences init
  flat_stmt_occurrences (flat_run value) = expr_occurrences value
  flat_stmt_occurrences (flat_if cond consequent alternative) =
      expr_occurrences cond ++ (flat_stmt_occurrences consequent ++ flat_stmt_if_occurrences alternative)
  flat_stmt_occurrences (flat_loop body) = flat_stmt_occurrences body
  flat_stmt_occurrences (flat_named name body) = flat_stmt_occurrences body
  flat_stmt_occurrences (flat_leave name) = []

  pub flat_stmts_occurrences : FlatStmts → List Occurrence
  flat_stmts_occurrences no_flat_stmts = []
  flat_stmts_occurrences (more_flat_stmts first rest) = flat_stmt_occurrences first ++ flat_stmts_occurrences rest

  pub flat_stmt_if_occurrences : MaybeFlatStmt → List Occurrence
  flat_stmt_if_occurrences no_flat_stmt = []
  flat_stmt_if_occurrences (some_flat_stmt body) = flat_stmt_occurrences body

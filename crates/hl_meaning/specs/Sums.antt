-- How much a program holds, with all calls replaced by what they call. The sums and what counts in them are this
-- project's own.
use Rattle.std.specs.Prelude.{ℕ, suc, ◌+◌, max, List, [], ◌∷◌, ◌++◌, sum_by, Option, Some, None, slice_get, unwrap_or}
use Rattle.hl_meaning.specs.declared.sums.Sums.{Sums}
use Rattle.hl_meaning.specs.Stopping.{stopped}
use Rattle.hl_meaning.specs.Trees.{Arg, Args, Expr, Exprs, Form, Location, MaybeExpr, MaybeLocation, MaybeStmt, PathPart, PathParts, Root, Stmt, Stmts, Target, a_location, an_expr, atomic_form, binary_form, block_stmt, break_stmt, build_form, bytes_target, call_form, choose_form, continue_stmt, convert_form, do_stmt, element_root, for_stmt, if_stmt, index_part, intrinsic_form, literal_form, local_stmt, method_form, more_args, more_exprs, more_parts, more_stmts, no_args, no_expr, no_exprs, no_location, no_parts, no_stmt, no_stmts, pick_form, place_arg, place_target, read_form, return_stmt, run_stmt, some_expr, some_location, some_stmt, unary_form, value_arg, while_stmt, write_form}
use Rattle.hl_meaning.specs.Programs.{Constant, FunctionDef, Program, StructDef, Variable}
use Rattle.hl_meaning.specs.Layout.{words_of}

abbrev pub nothing : Sums
nothing = record { size = 0; branches = 0; depth = 0; private_words = 0 }

-- two things beside one another
abbrev pub both : Sums → Sums → Sums
both a b = record {
  size = a.size + b.size;
  branches = a.branches + b.branches;
  depth = max a.depth b.depth;
  private_words = a.private_words + b.private_words;
}

-- what counts `size`, around what it holds
abbrev pub node : ℕ → Sums → Sums
node size inner = record inner { size = size + inner.size; depth = suc inner.depth }

-- what counts `size` in a place, which is no node
abbrev pub step : ℕ → Sums → Sums
step size inner = record inner { size = size + inner.size }

-- a statement, which counts 1
abbrev pub statement : Sums → Sums
statement inner = node 1 inner

-- an `if`, a loop or a jump
abbrev pub branch : Sums → Sums
branch inner = statement (record inner { branches = suc inner.branches })

-- what is there when it runs, and what stands in it: the words of each struct are known, and so are the sums of each
-- function before this one
pub record Counted : Type 0 where
  pub structs : List StructDef
  pub functions : List Sums

abbrev pub callee_sums : Counted → ℕ → Sums
callee_sums c function = unwrap_or (slice_get c.functions function) nothing

abbrev mutual
  -- an expression counts the words of its type, and at least 1
  pub expr_sums : Counted → Expr → Sums
  expr_sums c (an_expr ty at form) = node (max 1 (words_of c.structs ty)) (form_sums c form)

  pub form_sums : Counted → Form → Sums
  form_sums c (literal_form word) = nothing
  form_sums c (read_form place) = location_sums c place
  form_sums c (write_form to op common value old) = both (location_sums c to) (expr_sums c value)
  form_sums c (convert_form value) = expr_sums c value
  form_sums c (unary_form op value) = expr_sums c value
  form_sums c (binary_form op left right) = both (expr_sums c left) (expr_sums c right)
  form_sums c (choose_form cond consequent alternative) = both (expr_sums c cond) (both (expr_sums c consequent) (expr_sums c alternative))
  form_sums c (build_form parts) = exprs_sums c parts
  form_sums c (pick_form value parts) = both (expr_sums c value) (indexes_sums c parts)
  form_sums c (call_form function args) = both (args_sums c args) (callee_sums c function)
  form_sums c (intrinsic_form number args) = exprs_sums c args
  form_sums c (method_form resource count address value) = both (expr_sums c address) (expr_if_sums c value)
  form_sums c (atomic_form target kind compare value original) =
      both (target_sums c target) (both (expr_if_sums c compare) (both (expr_sums c value) (location_if_sums c original)))

  -- each step of a place counts 1, and the indexes are nodes beside it
  pub location_sums : Counted → Location → Sums
  location_sums c (a_location ty root parts) = both (root_sums c root) (parts_sums c parts)

  pub root_sums : Counted → Root → Sums
  root_sums c (element_root resource index) = expr_sums c index
  root_sums c _ = nothing

  pub parts_sums : Counted → PathParts → Sums
  parts_sums c no_parts = nothing
  parts_sums c (more_parts first rest) = both (step 1 (part_sums c first)) (parts_sums c rest)

  -- of the steps into a value that isn't a place the indexes alone count
  pub indexes_sums : Counted → PathParts → Sums
  indexes_sums c no_parts = nothing
  indexes_sums c (more_parts first rest) = both (part_sums c first) (indexes_sums c rest)

  pub part_sums : Counted → PathPart → Sums
  part_sums c (index_part index) = expr_sums c index
  part_sums c _ = nothing

  pub exprs_sums : Counted → Exprs → Sums
  exprs_sums c no_exprs = nothing
  exprs_sums c (more_exprs first rest) = both (expr_sums c first) (exprs_sums c rest)

  pub args_sums : Counted → Args → Sums
  args_sums c no_args = nothing
  args_sums c (more_args first rest) = both (arg_sums c first) (args_sums c rest)

  pub arg_sums : Counted → Arg → Sums
  arg_sums c (value_arg value) = expr_sums c value
  arg_sums c (place_arg place) = location_sums c place

  pub target_sums : Counted → Target → Sums
  target_sums c (place_target place) = location_sums c place
  target_sums c (bytes_target resource address) = expr_sums c address

  pub expr_if_sums : Counted → MaybeExpr → Sums
  expr_if_sums c no_expr = nothing
  expr_if_sums c (some_expr value) = expr_sums c value

  pub location_if_sums : Counted → MaybeLocation → Sums
  location_if_sums c no_location = nothing
  location_if_sums c (some_location place) = location_sums c place

abbrev pub expr_option_sums : Counted → Option Expr → Sums
expr_option_sums c None = nothing
expr_option_sums c (Some value) = expr_sums c value

abbrev mutual
  -- each statement counts 1, but a declaration, whose variable counts its words
  pub stmt_sums : Counted → Stmt → Sums
  stmt_sums c (block_stmt body) = statement (stmts_sums c body)
  stmt_sums c (local_stmt variable init) = node 0 (expr_option_sums c init)
  stmt_sums c (run_stmt value) = statement (expr_sums c value)
  stmt_sums c (if_stmt cond consequent alternative) = branch (both (expr_sums c cond) (both (stmt_sums c consequent) (stmt_if_sums c alternative)))
  stmt_sums c (for_stmt init cond step body) =
      branch (both (stmts_sums c init) (both (expr_option_sums c cond) (both (expr_option_sums c step) (stmt_sums c body))))
  stmt_sums c (while_stmt cond body) = branch (both (expr_sums c cond) (stmt_sums c body))
  stmt_sums c (do_stmt body cond) = branch (both (stmt_sums c body) (expr_sums c cond))
  stmt_sums c break_stmt = branch nothing
  stmt_sums c continue_stmt = branch nothing
  stmt_sums c (return_stmt value) = branch (expr_option_sums c value)

  pub stmts_sums : Counted → Stmts → Sums
  stmts_sums c no_stmts = nothing
  stmts_sums c (more_stmts first rest) = both (stmt_sums c first) (stmts_sums c rest)

  pub stmt_if_sums : Counted → MaybeStmt → Sums
  stmt_if_sums c no_stmt = nothing
  stmt_if_sums c (some_stmt body) = stmt_sums c body

-- the words of variables together
abbrev pub variable_words : List StructDef → List Variable → ℕ
variable_words structs variables = sum_by (λ v. words_of structs v.ty) variables

-- words of memory, which count in two sums
abbrev pub memory : (size private_words : ℕ) → Sums
memory size private_words = record { size = size; branches = 0; depth = 0; private_words = private_words }

-- A function holds its body, the words of its variables, those of its parameters among them, and as memory its result.
abbrev pub function_sums : Counted → FunctionDef → Sums
function_sums c f = both
    (stmts_sums c f.body)
    (memory (variable_words c.structs f.variables) (variable_words c.structs f.variables + words_of c.structs f.result))

-- The sums of each function, behind those of the functions before it. A function calls earlier ones alone.
abbrev pub functions_sums : List StructDef → List Sums → List FunctionDef → List Sums
functions_sums structs before [] = before
functions_sums structs before (f ∷ functions) =
    functions_sums structs (before ++ function_sums (record { structs = structs; functions = before }) f ∷ []) functions

-- the words of the constants together
abbrev pub constant_words : List StructDef → List Constant → ℕ
constant_words structs constants = sum_by (λ c. words_of structs c.variable.ty) constants

-- what the entry holds, and the constants
abbrev pub program_sums : Program → Sums
program_sums p = both
    (unwrap_or (slice_get (functions_sums p.structs [] p.functions) p.entry) nothing)
    (memory (constant_words p.structs p.constants) (constant_words p.structs p.constants))

-- each sum stops
abbrev pub stop_all : Sums → Sums
stop_all s = record {
  size = stopped s.size;
  branches = stopped s.branches;
  depth = stopped s.depth;
  private_words = stopped s.private_words;
}

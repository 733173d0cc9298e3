-- The variables of a function that may be used before their declaration. The variables of a program that was made of
-- a source are declared before; what holds programs asks nothing of it.
use Rattle.std.specs.Prelude.{ℕ, not, List, [], ◌∷◌, ◌++◌, length, Option, None, Some, filter, filter_map}
use Rattle.std.specs.List.{range_with_len}
use Rattle.hl_meaning.specs.Trees.{MaybeStmt, Stmt, Stmts, block_stmt, break_stmt, continue_stmt, do_stmt, for_stmt, if_stmt, local_stmt, more_stmts, no_stmt, no_stmts, return_stmt, run_stmt, some_stmt, variable_root, while_stmt}
use Rattle.hl_meaning.specs.Programs.{FunctionDef}
use Rattle.hl_meaning.specs.Operators.{is_among}
use Rattle.hl_inline.specs.Occurrences.{Occurrence, expr_occurrences, expr_option_occurrences, place_occurrence}

-- the variable of a place
abbrev pub variable_of : Occurrence → Option ℕ
variable_of (place_occurrence (variable_root number) parts) = Some number
variable_of _ = None

-- the variables among occurrences that aren't declared
abbrev pub undeclared : (declared : List ℕ) → List Occurrence → List ℕ
undeclared declared occurrences = filter (λ number. not (is_among declared number)) (filter_map variable_of occurrences)

-- what is declared behind a statement: what a block declares ends with it
abbrev pub declared_by : List ℕ → Stmt → List ℕ
declared_by declared (local_stmt variable init) = variable ∷ declared
declared_by declared _ = declared

abbrev pub declared_in : List ℕ → Stmts → List ℕ
declared_in declared no_stmts = declared
declared_in declared (more_stmts first rest) = declared_in (declared_by declared first) rest

abbrev mutual
  -- the variables that a statement uses before they are declared, given those that are declared before it
  pub used_undeclared : List ℕ → Stmt → List ℕ
  used_undeclared declared (block_stmt body) = used_undeclared_in declared body
  used_undeclared declared (local_stmt variable init) = undeclared declared (expr_option_occurrences init)
  used_undeclared declared (run_stmt value) = undeclared declared (expr_occurrences value)
  used_undeclared declared (if_stmt cond consequent alternative) =
      undeclared declared (expr_occurrences cond) ++ (used_undeclared declared consequent ++ used_undeclared_if declared alternative)
  used_undeclared declared (for_stmt init cond step body) =
      used_undeclared_in declared init ++
      (undeclared (declared_in declared init) (expr_option_occurrences cond) ++
      (undeclared (declared_in declared init) (expr_option_occurrences step) ++ used_undeclared (declared_in declared init) body))
  used_undeclared declared (while_stmt cond body) = undeclared declared (expr_occurrences cond) ++ used_undeclared declared body
  used_undeclared declared (do_stmt body cond) = used_undeclared declared body ++ undeclared declared (expr_occurrences cond)
  used_undeclared declared break_stmt = []
  used_undeclared declared continue_stmt = []
  used_undeclared declared (return_stmt value) = undeclared declared (expr_option_occurrences value)

  pub used_undeclared_in : List ℕ → Stmts → List ℕ
  used_undeclared_in declared no_stmts = []
  used_undeclared_in declared (more_stmts first rest) = used_undeclared declared first ++ used_undeclared_in (declared_by declared first) rest

  pub used_undeclared_if : List ℕ → MaybeStmt → List ℕ
  used_undeclared_if declared no_stmt = []
  used_undeclared_if declared (some_stmt body) = used_undeclared declared body

-- the variables of the parameters are declared from the start
abbrev pub parameter_numbers : FunctionDef → List ℕ
parameter_numbers f = range_with_len 0 (length f.parameters)

-- the variables of a function that may be used before their declaration, in order
abbrev pub variables_used_undeclared : FunctionDef → List ℕ
variables_used_undeclared f =
    filter (λ number. is_among (used_undeclared_in (parameter_numbers f) f.body) number) (range_with_len 0 (length f.variables))

-- What every program without calls keeps: all numbers name what is there, and each node has the type that its place
-- needs, as in a program.
use Rattle.std.specs.Prelude.{◌≡◌, ℕ, ◌≤◌, not, List, [], ◌∷◌, ◌++◌, map, IsTrue, Some, slice_get}
use Rattle.std.specs.List.{All}
use Rattle.hl_meaning.specs.declared.program.Semantic.{Semantic}
use Rattle.hl_meaning.specs.Types.{void_type}
use Rattle.hl_meaning.specs.Programs.{StructDef}
use Rattle.hl_meaning.specs.Places.{Scope, is_without_repeats, variable_type}
use Rattle.hl_meaning.specs.Sums.{variable_words}
use Rattle.hl_meaning.specs.WellFormed.{AreThreads, HasSemanticIf, IsCondition, IsDeclared, IsExpr, IsLocal, IsResource, IsStruct, semantic_number}
use Rattle.hl_meaning.specs.Operators.{is_among}
use Rattle.hl_inline.specs.FlatTrees.{Flat, FlatStmt, FlatStmts, MaybeFlatStmt, flat_block, flat_if, flat_input, flat_leave, flat_local, flat_loop, flat_named, flat_run, more_flat_stmts, no_flat_stmt, no_flat_stmts, some_flat_stmt}

-- what can be named: no functions and no constants
abbrev pub flat_scope : Flat → Scope
flat_scope f = record {
  structs = f.structs;
  resources = f.resources;
  shared = f.shared;
  constants = [];
  functions = [];
  variables = f.variables;
  result = void_type;
}

abbrev mutual
  -- A statement inside the `Named` of some names. A `Leave` has one of them, and a `Named` another than these.
  pub IsFlatStmt : Scope → (names : List ℕ) → FlatStmt → Type 0
  IsFlatStmt s names (flat_block body) = AreFlatStmts s names body
  IsFlatStmt s names (flat_input variable semantic) = HasSemanticIf (Some semantic) (variable_type s.variables variable)
  IsFlatStmt s names (flat_local variable init) = IsLocal s variable init
  IsFlatStmt s names (flat_run value) = IsExpr s value
  IsFlatStmt s names (flat_if cond consequent alternative) =
      IsCondition s cond × IsFlatStmt s names consequent × IsFlatStmtIf s names alternative
  IsFlatStmt s names (flat_loop body) = IsFlatStmt s names body
  IsFlatStmt s names (flat_named name body) = IsTrue (not (is_among names name)) × IsFlatStmt s (name ∷ names) body
  IsFlatStmt s names (flat_leave name) = IsTrue (is_among names name)

  pub AreFlatStmts : Scope → List ℕ → FlatStmts → Type 0
  AreFlatStmts s names no_flat_stmts = Unit {0}
  AreFlatStmts s names (more_flat_stmts first rest) = IsFlatStmt s names first × AreFlatStmts s names rest

  pub IsFlatStmtIf : Scope → List ℕ → MaybeFlatStmt → Type 0
  IsFlatStmtIf s names no_flat_stmt = Unit {0}
  IsFlatStmtIf s names (some_flat_stmt body) = IsFlatStmt s names body

abbrev mutual
  -- the semantics that a statement sets
  pub inputs_of : FlatStmt → List Semantic
  inputs_of (flat_block body) = inputs_in body
  inputs_of (flat_input variable semantic) = semantic ∷ []
  inputs_of (flat_if cond consequent alternative) = inputs_of consequent ++ inputs_if alternative
  inputs_of (flat_loop body) = inputs_of body
  inputs_of (flat_named name body) = inputs_of body
  inputs_of _ = []

  pub inputs_in : FlatStmts → List Semantic
  inputs_in no_flat_stmts = []
  inputs_in (more_flat_stmts first rest) = inputs_of first ++ inputs_in rest

  pub inputs_if : MaybeFlatStmt → List Semantic
  inputs_if no_flat_stmt = []
  inputs_if (some_flat_stmt body) = inputs_of body

-- the greatest number of words of the groupshared variables together
abbrev pub most_shared_words : ℕ
most_shared_words = 8192

pub record IsFlat (f : Flat) : Type 0 where
  pub structs : (number : ℕ) (d : StructDef) → slice_get f.structs number ≡ Some d → IsStruct f.structs number d
  pub resources : All (IsResource f.structs) f.resources
  pub shared : All (λ v. IsDeclared f.structs v.ty) f.shared
  pub shared_fits : variable_words f.structs f.shared ≤ most_shared_words
  pub variables : All (λ v. IsDeclared f.structs v.ty) f.variables
  pub body : AreFlatStmts (flat_scope f) [] f.body
  pub distinct : IsTrue (is_without_repeats (map (λ semantic. semantic_number (Some semantic)) (inputs_in f.body)))
  pub threads : AreThreads f.threads

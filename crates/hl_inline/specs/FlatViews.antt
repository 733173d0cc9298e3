-- The plain data of a program without calls that is held.
use Rattle.std.specs.Prelude.{ℕ, List, [], ◌∷◌, map, Option, None, Some, option_map}
use Rattle.hl_meaning.specs.declared.program.Resource.{Resource}
use Rattle.hl_meaning.specs.declared.program.StructDef.{StructDef}
use Rattle.hl_meaning.specs.declared.program.Variable.{Variable}
use Rattle.hl_meaning.specs.Views.{plain_expr, plain_resource, plain_struct, plain_variable}
use Rattle.hl_inline.specs.declared.flat.FlatStmt.{FlatStmt, FlatStmt-F, fold-FlatStmt}
use Rattle.hl_inline.specs.FlatTrees.{FlatStmts, MaybeFlatStmt, flat_block, flat_if, flat_input, flat_leave, flat_local, flat_loop, flat_named, flat_run, more_flat_stmts, no_flat_stmt, no_flat_stmts, some_flat_stmt}
use Rattle.hl_inline.specs.FlatTrees as plain

abbrev pub flat_stmts_of : List plain.FlatStmt → FlatStmts
flat_stmts_of [] = no_flat_stmts
flat_stmts_of (stmt ∷ stmts) = more_flat_stmts stmt (flat_stmts_of stmts)

abbrev pub maybe_flat_stmt : Option plain.FlatStmt → MaybeFlatStmt
maybe_flat_stmt None = no_flat_stmt
maybe_flat_stmt (Some stmt) = some_flat_stmt stmt

-- a statement, with the plain data of its parts
abbrev pub flat_stmt_step : FlatStmt-F plain.FlatStmt → plain.FlatStmt
flat_stmt_step (FlatStmt-F.Block body) = flat_block (flat_stmts_of body)
flat_stmt_step (FlatStmt-F.Input variable semantic) = flat_input variable semantic
flat_stmt_step (FlatStmt-F.Local variable init) = flat_local variable (option_map plain_expr init)
flat_stmt_step (FlatStmt-F.Run value) = flat_run (plain_expr value)
flat_stmt_step (FlatStmt-F.If cond consequent alternative) = flat_if (plain_expr cond) consequent (maybe_flat_stmt alternative)
flat_stmt_step (FlatStmt-F.Loop body) = flat_loop body
flat_stmt_step (FlatStmt-F.Named name body) = flat_named name body
flat_stmt_step (FlatStmt-F.Leave name) = flat_leave name

unfoldable pub plain_flat_stmt : FlatStmt → plain.FlatStmt
plain_flat_stmt = fold-FlatStmt plain.FlatStmt flat_stmt_step

abbrev pub plain_flat_stmts : List FlatStmt → FlatStmts
plain_flat_stmts stmts = flat_stmts_of (map plain_flat_stmt stmts)

abbrev pub plain_maybe_flat_stmt : Option FlatStmt → MaybeFlatStmt
plain_maybe_flat_stmt stmt = maybe_flat_stmt (option_map plain_flat_stmt stmt)

-- the program without calls of these parts
abbrev pub flat_of : List StructDef → (variables : List Variable) → List Resource → (shared : List Variable) → (threads : List ℕ) → List FlatStmt → plain.Flat
flat_of structs variables resources shared threads body = record {
  structs = map plain_struct structs;
  variables = map plain_variable variables;
  resources = map plain_resource resources;
  shared = map plain_variable shared;
  threads = threads;
  body = plain_flat_stmts body;
}

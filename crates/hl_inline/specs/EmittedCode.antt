-- Statements in order, with what is free behind them. These definitions are this project's own: no public standard
-- speaks of them.
use Rattle.std.specs.Prelude.{List, [], ◌∷◌, ◌++◌}
use Rattle.hl_inline.specs.FlatTrees.{FlatStmt, MaybeFlatStmt, flat_block, no_flat_stmt, some_flat_stmt}
use Rattle.hl_inline.specs.FlatViews.{flat_stmts_of}
use Rattle.hl_inline.specs.Fresh.{Fresh}

-- statements, and what is free behind them
pub record EmittedCode : Type 0 where
  pub code : List FlatStmt
  pub fresh : Fresh

abbrev pub nothing_emitted : Fresh → EmittedCode
nothing_emitted fresh = record { code = []; fresh = fresh }

abbrev pub emitted_stmt : FlatStmt → Fresh → EmittedCode
emitted_stmt stmt fresh = record { code = stmt ∷ []; fresh = fresh }

-- one after the other
abbrev pub emitted_with : List FlatStmt → EmittedCode → EmittedCode
emitted_with code rest = record { code = code ++ rest.code; fresh = rest.fresh }

abbrev pub emitted_then : EmittedCode → (Fresh → EmittedCode) → EmittedCode
emitted_then first rest = emitted_with first.code (rest first.fresh)

-- statements as one
abbrev pub as_one : List FlatStmt → FlatStmt
as_one (stmt ∷ []) = stmt
as_one stmts = flat_block (flat_stmts_of stmts)

-- an alternative is left out where it does nothing
abbrev pub as_alternative : List FlatStmt → MaybeFlatStmt
as_alternative [] = no_flat_stmt
as_alternative stmts = some_flat_stmt (as_one stmts)

-- Programs without calls as plain data, apart from how they are held.
use Rattle.std.specs.Prelude.{ℕ, List, Option}
use Rattle.hl_meaning.specs.declared.program.Semantic.{Semantic}
use Rattle.hl_meaning.specs.Trees.{Expr}
use Rattle.hl_meaning.specs.Programs.{Resource, StructDef, Variable}

mutual
  pub data FlatStmt : Type 0 where
    flat_block : (body : FlatStmts) → FlatStmt
    flat_input : (variable : ℕ) (semantic : Semantic) → FlatStmt
    flat_local : (variable : ℕ) (init : Option Expr) → FlatStmt
    flat_run : (value : Expr) → FlatStmt
    flat_if : (cond : Expr) (consequent : FlatStmt) (alternative : MaybeFlatStmt) → FlatStmt
    flat_loop : (body : FlatStmt) → FlatStmt
    flat_named : (name : ℕ) (body : FlatStmt) → FlatStmt
    flat_leave : (name : ℕ) → FlatStmt

  pub data FlatStmts : Type 0 where
    no_flat_stmts : FlatStmts
    more_flat_stmts : (first : FlatStmt) (rest : FlatStmts) → FlatStmts

  pub data MaybeFlatStmt : Type 0 where
    no_flat_stmt : MaybeFlatStmt
    some_flat_stmt : (body : FlatStmt) → MaybeFlatStmt

pub record Flat : Type 0 where
  pub structs : List StructDef
  pub variables : List Variable
  pub resources : List Resource
  pub shared : List Variable
  pub threads : List ℕ
  pub body : FlatStmts

-- Programs as plain data, apart from how they are held.
use Rattle.std.specs.Prelude.{ℕ, List, Bool, Option}
use Rattle.hl_meaning.specs.declared.program.Parameter.{Parameter}
use Rattle.hl_meaning.specs.Types.{Ty}
use Rattle.hl_meaning.specs.Trees.{Stmts}

pub record Member : Type 0 where
  pub name : List ℕ
  pub ty : Ty
  pub offset : ℕ

pub record StructDef : Type 0 where
  pub name : List ℕ
  pub members : List Member
  pub words : ℕ

pub record Resource : Type 0 where
  pub name : List ℕ
  pub class : ℕ
  pub raw : Bool
  pub element : Ty
  pub words : ℕ
  pub register : Option ℕ
  pub space : ℕ
  pub at : ℕ

pub record Variable : Type 0 where
  pub name : List ℕ
  pub ty : Ty
  pub at : ℕ

pub record Constant : Type 0 where
  pub variable : Variable
  pub words : List ℕ

pub record FunctionDef : Type 0 where
  pub name : List ℕ
  pub result : Ty
  pub parameters : List Parameter
  pub variables : List Variable
  pub body : Stmts

pub record Program : Type 0 where
  pub structs : List StructDef
  pub resources : List Resource
  pub shared : List Variable
  pub constants : List Constant
  pub functions : List FunctionDef
  pub entry : ℕ
  pub threads : List ℕ

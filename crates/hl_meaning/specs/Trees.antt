-- Typed trees as plain data, apart from how they are held.
--
-- Operators have the numbers of their marks among the tokens.
use Rattle.std.specs.Prelude.{ℕ, List, [], ◌∷◌, Bool, Option}
use Rattle.lane_core.specs.declared.event.AtomicKind.{AtomicKind}
use Rattle.hl_meaning.specs.Types.{Ty}

mutual
  -- an expression: its type, the index of its first token, and its form
  pub data Expr : Type 0 where
    an_expr : (ty : Ty) (at : ℕ) (form : Form) → Expr

  -- what an expression does
  pub data Form : Type 0 where
    literal_form : (word : ℕ) → Form
    read_form : (place : Location) → Form
    write_form : (to : Location) (op : Option ℕ) (common : Ty) (value : Expr) (old : Bool) → Form
    convert_form : (value : Expr) → Form
    unary_form : (op : ℕ) (value : Expr) → Form
    binary_form : (op : ℕ) (left right : Expr) → Form
    choose_form : (cond consequent alternative : Expr) → Form
    build_form : (parts : Exprs) → Form
    pick_form : (value : Expr) (parts : PathParts) → Form
    call_form : (function : ℕ) (args : Args) → Form
    intrinsic_form : (number : ℕ) (args : Exprs) → Form
    method_form : (resource count : ℕ) (address : Expr) (value : MaybeExpr) → Form
    atomic_form : (target : Target) (kind : Option AtomicKind) (compare : MaybeExpr) (value : Expr) (original : MaybeLocation) → Form

  -- a place: its type, where it begins, and the steps into it
  pub data Location : Type 0 where
    a_location : (ty : Ty) (root : Root) (parts : PathParts) → Location

  pub data Root : Type 0 where
    variable_root : (number : ℕ) → Root
    constant_root : (number : ℕ) → Root
    shared_root : (number : ℕ) → Root
    element_root : (resource : ℕ) (index : Expr) → Root

  pub data PathPart : Type 0 where
    member_part : (number : ℕ) → PathPart
    index_part : (index : Expr) → PathPart
    swizzle_part : (letters : List ℕ) → PathPart

  pub data PathParts : Type 0 where
    no_parts : PathParts
    more_parts : (first : PathPart) (rest : PathParts) → PathParts

  pub data Exprs : Type 0 where
    no_exprs : Exprs
    more_exprs : (first : Expr) (rest : Exprs) → Exprs

  pub data Arg : Type 0 where
    value_arg : (value : Expr) → Arg
    place_arg : (place : Location) → Arg

  pub data Args : Type 0 where
    no_args : Args
    more_args : (first : Arg) (rest : Args) → Args

  -- what an atomic operation works on
  pub data Target : Type 0 where
    place_target : (place : Location) → Target
    bytes_target : (resource : ℕ) (address : Expr) → Target

  pub data MaybeExpr : Type 0 where
    no_expr : MaybeExpr
    some_expr : (value : Expr) → MaybeExpr

  pub data MaybeLocation : Type 0 where
    no_location : MaybeLocation
    some_location : (place : Location) → MaybeLocation

mutual
  pub data Stmt : Type 0 where
    block_stmt : (body : Stmts) → Stmt
    local_stmt : (variable : ℕ) (init : Option Expr) → Stmt
    run_stmt : (value : Expr) → Stmt
    if_stmt : (cond : Expr) (consequent : Stmt) (alternative : MaybeStmt) → Stmt
    for_stmt : (init : Stmts) (cond step : Option Expr) (body : Stmt) → Stmt
    while_stmt : (cond : Expr) (body : Stmt) → Stmt
    do_stmt : (body : Stmt) (cond : Expr) → Stmt
    break_stmt : Stmt
    continue_stmt : Stmt
    return_stmt : (value : Option Expr) → Stmt

  pub data Stmts : Type 0 where
    no_stmts : Stmts
    more_stmts : (first : Stmt) (rest : Stmts) → Stmts

  pub data MaybeStmt : Type 0 where
    no_stmt : MaybeStmt
    some_stmt : (body : Stmt) → MaybeStmt

abbrev pub type_of : Expr → Ty
type_of (an_expr ty at form) = ty

abbrev pub place_type : Location → Ty
place_type (a_location ty root parts) = ty

abbrev pub types_of : Exprs → List Ty
types_of no_exprs = []
types_of (more_exprs first rest) = type_of first ∷ types_of rest

-- What every program keeps: all numbers name what is there, and each node has the type that its place needs.
use Rattle.std.specs.Prelude.{◌≡◌, ℕ, suc, ◌*◌, ◌^◌, ◌<◌, ◌≤◌, ◌&&◌, ◌||◌, not, Bool, true, false, List, [], ◌∷◌, map, sum_by, take, length, IsTrue, Option, Some, None, option_map, slice_get}
use Rattle.std.specs.List.{All, list_all}
use Rattle.lane_core.specs.declared.event.AtomicKind.{AtomicKind}
use Rattle.lane_core.specs.declared.event.AtomicKind.TheVariants.{IMin, IMax, UMin, UMax, Exchange}
use Rattle.hl_meaning.specs.declared.ty.Kind.{Kind}
use Rattle.hl_meaning.specs.declared.ty.Kind.TheVariants.{Bool as BoolKind, Int as IntKind, Uint as UintKind}
use Rattle.hl_meaning.specs.declared.program.Copying.{Copying}
use Rattle.hl_meaning.specs.declared.program.Copying.TheVariants.{CopyIn, CopyOut, CopyBoth}
use Rattle.hl_meaning.specs.declared.program.Semantic.{Semantic}
use Rattle.hl_meaning.specs.declared.program.Semantic.TheVariants.{DispatchThreadId, GroupId, GroupThreadId, GroupIndex}
use Rattle.hl_meaning.specs.declared.program.Parameter.{Parameter}
use Rattle.hl_meaning.specs.Types.{Ty, array_type, bool_type, component_count, components_type, is_alike, is_basic, is_numeric, is_of, is_scalar, is_void, scalar_type, struct_type, ty_eq, uint_type, vector_type, void_type, with_kind}
use Rattle.hl_meaning.specs.Conversions.{converts}
use Rattle.hl_meaning.specs.Operators.{binary_type, computing, is_among, stepping, unary_type}
use Rattle.hl_meaning.specs.Intrinsics.{TakesAndGives}
use Rattle.hl_meaning.specs.Trees.{Arg, Args, Expr, Exprs, Form, Location, MaybeExpr, MaybeLocation, MaybeStmt, PathPart, PathParts, Root, Stmt, Stmts, Target, a_location, an_expr, atomic_form, binary_form, block_stmt, break_stmt, build_form, bytes_target, call_form, choose_form, constant_root, continue_stmt, convert_form, do_stmt, element_root, for_stmt, if_stmt, index_part, intrinsic_form, literal_form, local_stmt, member_part, method_form, more_args, more_exprs, more_parts, more_stmts, no_args, no_expr, no_exprs, no_location, no_parts, no_stmt, no_stmts, pick_form, place_arg, place_target, place_type, read_form, return_stmt, run_stmt, shared_root, some_expr, some_location, some_stmt, swizzle_part, type_of, types_of, unary_form, value_arg, variable_root, while_stmt, write_form}
use Rattle.hl_meaning.specs.Programs.{Constant, FunctionDef, Member, Program, Resource, StructDef, Variable}
use Rattle.hl_meaning.specs.Layout.{kinds_of, member_offset, words_of}
use Rattle.hl_meaning.specs.Places.{Scope, has_literal_indexes, is_atomic_place, is_end, is_raw, is_writable, is_writable_place, is_without_repeats, path_type, reached_type, variable_type}

-- types

-- Vectors have 2, 3 or 4 components, arrays from 1 to 65536 elements, and structs are there.
abbrev pub IsType : List StructDef → Ty → Type 0
IsType structs void_type = ⊥
IsType structs (scalar_type kind) = Unit {0}
IsType structs (vector_type kind size) = (2 ≤ size) × (size ≤ 4)
IsType structs (array_type element length) = IsType structs element × (1 ≤ length) × (length ≤ 65536)
IsType structs (struct_type number) = number < length structs

-- the greatest number of words of a type
abbrev pub most_words : ℕ
most_words = 65536

-- a type that something may have
abbrev pub IsDeclared : List StructDef → Ty → Type 0
IsDeclared structs ty = IsType structs ty × (words_of structs ty ≤ most_words)

-- such a type, or no value
abbrev pub IsResult : List StructDef → Ty → Type 0
IsResult structs void_type = Unit {0}
IsResult structs ty = IsDeclared structs ty

-- expressions

-- A literal is a scalar: a word of 32 bits, and a bool 0 or 1.
abbrev pub IsLiteralOf : Ty → ℕ → Type 0
IsLiteralOf (scalar_type BoolKind) word = word ≤ 1
IsLiteralOf (scalar_type kind) word = word < 2 ^ 32
IsLiteralOf _ word = ⊥

-- Without an operator a value of the place's type is written. An operator computes in a type of numbers to which the
-- place converts, and which converts back, and `++` and `--` may have the old value.
abbrev pub Assigns : Option ℕ → (to common value : Ty) → (old : Bool) → Type 0
Assigns None to common value old = (common ≡ to) × (value ≡ to) × (old ≡ false)
Assigns (Some op) to common value old =
    IsTrue (is_among computing op) × (value ≡ common) × IsTrue (is_numeric common) × IsTrue (converts to common) × IsTrue (converts common to) × IsTrue (not old || is_among stepping op)

-- What a value is built of. A scalar or a vector has parts of its kind, with as many components together. An array or a
-- struct, which only an initialiser in braces builds, has a scalar for each of its words, of the word's kind.
abbrev pub Builds : List StructDef → Ty → List Ty → Type 0
Builds structs void_type types = ⊥
Builds structs (array_type element length) types = types ≡ map scalar_type (kinds_of structs (array_type element length))
Builds structs (struct_type number) types = types ≡ map scalar_type (kinds_of structs (struct_type number))
Builds structs ty types = IsTrue (list_all (is_alike ty) types) × (sum_by component_count types ≡ component_count ty)

-- min and max are signed for int, and unsigned for uint
abbrev pub is_kind_for : AtomicKind → Ty → Bool
is_kind_for IMin ty = is_of IntKind ty
is_kind_for IMax ty = is_of IntKind ty
is_kind_for UMin ty = is_of UintKind ty
is_kind_for UMax ty = is_of UintKind ty
is_kind_for _ ty = true

-- a scalar of int or uint
abbrev pub IsWord : Ty → Type 0
IsWord ty = IsTrue (is_scalar ty && is_numeric ty)

-- a parameter of a function that is called: its type, and how it is passed
pub record Param : Type 0 where
  pub ty : Ty
  pub copying : Copying

abbrev pub param_of : List Variable → Parameter → Option Param
param_of variables p = option_map (λ ty. record { ty = ty; copying = p.copying }) (variable_type variables p.variable)

abbrev pub params_of : FunctionDef → List (Option Param)
params_of f = map (param_of f.variables) f.parameters

-- the parameters of the function of a number among those that may be called
abbrev pub callee_params : Option FunctionDef → List (Option Param)
callee_params None = []
callee_params (Some f) = params_of f

abbrev pub callee_result : Option FunctionDef → Option Ty
callee_result None = None
callee_result (Some f) = Some f.result

abbrev mutual
  -- an expression has a type that may stand there, and its form gives that type
  pub IsExpr : Scope → Expr → Type 0
  IsExpr s (an_expr ty at form) = IsResult s.structs ty × IsForm s ty form

  -- the form gives a value of the type, or has no value where the type is that of no value
  pub IsForm : Scope → Ty → Form → Type 0
  IsForm s ty (literal_form word) = IsLiteralOf ty word
  IsForm s ty (read_form place) = IsPlace s place × (place_type place ≡ ty)
  IsForm s ty (write_form to op common value old) =
      IsPlace s to × IsTrue (is_writable_place s to) × (place_type to ≡ ty) × IsExpr s value × Assigns op ty common (type_of value) old
  IsForm s ty (convert_form value) =
      IsExpr s value × IsTrue (converts (type_of value) ty) × IsTrue (not (ty_eq (type_of value) ty))
  IsForm s ty (unary_form op value) = IsExpr s value × (unary_type op (type_of value) ≡ Some ty)
  IsForm s ty (binary_form op left right) =
      IsExpr s left × IsExpr s right × (type_of left ≡ type_of right) × (binary_type op (type_of left) ≡ Some ty)
  IsForm s ty (choose_form cond consequent alternative) =
      IsExpr s cond × IsExpr s consequent × IsExpr s alternative × (type_of cond ≡ with_kind BoolKind ty) × (type_of consequent ≡ ty) × (type_of alternative ≡ ty) × IsTrue (is_basic ty)
  IsForm s ty (build_form parts) = AreExprs s parts × Builds s.structs ty (types_of parts)
  IsForm s ty (pick_form value parts) =
      IsExpr s value × AreParts s parts × IsTrue (has_literal_indexes parts) × IsTrue (not (is_end parts)) × (path_type s.structs (type_of value) parts ≡ Some ty)
  IsForm s ty (call_form function args) =
      (callee_result (slice_get s.functions function) ≡ Some ty) × ArePassed s (callee_params (slice_get s.functions function)) args
  IsForm s ty (intrinsic_form number args) = AreExprs s args × TakesAndGives number (types_of args) ty
  IsForm s ty (method_form resource count address value) =
      IsTrue (is_raw (slice_get s.resources resource)) × (1 ≤ count) × (count ≤ 4) × IsExpr s address × (type_of address ≡ uint_type) × IsMethod s resource (components_type UintKind count) ty value
  IsForm s ty (atomic_form target kind compare value original) =
      (ty ≡ void_type) × IsTarget s (type_of value) target × IsExpr s value × IsWord (type_of value) × IsCompared s (type_of value) kind compare × IsOriginal s target kind original

  -- a load gives so many words, and a store takes them and needs a writable buffer
  pub IsMethod : Scope → (resource : ℕ) → (words ty : Ty) → MaybeExpr → Type 0
  IsMethod s resource words ty no_expr = ty ≡ words
  IsMethod s resource words ty (some_expr value) =
      (ty ≡ void_type) × IsTrue (is_writable (slice_get s.resources resource)) × IsExpr s value × (type_of value ≡ words)

  -- a groupshared variable, or a writable buffer
  pub IsTarget : Scope → Ty → Target → Type 0
  IsTarget s ty (place_target place) = IsPlace s place × (place_type place ≡ ty) × IsTrue (is_atomic_place s place)
  IsTarget s ty (bytes_target resource address) =
      IsTrue (is_raw (slice_get s.resources resource) && is_writable (slice_get s.resources resource)) × IsExpr s address × (type_of address ≡ uint_type)

  -- a compare exchange alone compares, with a value of the type
  pub IsCompared : Scope → Ty → Option AtomicKind → MaybeExpr → Type 0
  IsCompared s ty (Some kind) no_expr = IsTrue (is_kind_for kind ty)
  IsCompared s ty None (some_expr compare) = IsExpr s compare × (type_of compare ≡ ty)
  IsCompared s ty _ _ = ⊥

  -- The original value goes to a place of the target's type, and that of a byte-address buffer's word to an int or a
  -- uint. An exchange has one.
  pub IsOriginal : Scope → Target → Option AtomicKind → MaybeLocation → Type 0
  IsOriginal s target (Some Exchange) no_location = ⊥
  IsOriginal s target kind no_location = Unit {0}
  IsOriginal s (place_target place) kind (some_location original) =
      IsPlace s original × IsTrue (is_writable_place s original) × (place_type original ≡ place_type place)
  IsOriginal s (bytes_target resource address) kind (some_location original) =
      IsPlace s original × IsTrue (is_writable_place s original) × IsWord (place_type original)

  -- the steps lead from the root to the type
  pub IsPlace : Scope → Location → Type 0
  IsPlace s (a_location ty root parts) =
      IsDeclared s.structs ty × IsRoot s root × AreParts s parts × (reached_type s root parts ≡ Some ty)

  pub IsRoot : Scope → Root → Type 0
  IsRoot s (variable_root number) = Unit {0}
  IsRoot s (constant_root number) = Unit {0}
  IsRoot s (shared_root number) = Unit {0}
  IsRoot s (element_root resource index) = IsExpr s index × (type_of index ≡ uint_type)

  pub AreParts : Scope → PathParts → Type 0
  AreParts s no_parts = Unit {0}
  AreParts s (more_parts first rest) = IsPart s first × AreParts s rest

  -- an index is a uint
  pub IsPart : Scope → PathPart → Type 0
  IsPart s (member_part number) = Unit {0}
  IsPart s (index_part index) = IsExpr s index × (type_of index ≡ uint_type)
  IsPart s (swizzle_part letters) = Unit {0}

  pub AreExprs : Scope → Exprs → Type 0
  AreExprs s no_exprs = Unit {0}
  AreExprs s (more_exprs first rest) = IsExpr s first × AreExprs s rest

  -- one argument for each parameter
  pub ArePassed : Scope → List (Option Param) → Args → Type 0
  ArePassed s [] no_args = Unit {0}
  ArePassed s (Some param ∷ params) (more_args first rest) = IsPassed s param.ty param.copying first × ArePassed s params rest
  ArePassed s _ _ = ⊥

  -- a value for an `in` parameter, and else a place that may be written, of the parameter's type
  pub IsPassed : Scope → Ty → Copying → Arg → Type 0
  IsPassed s ty CopyIn (value_arg value) = IsExpr s value × (type_of value ≡ ty)
  IsPassed s ty CopyOut (place_arg place) = IsPlace s place × IsTrue (is_writable_place s place) × (place_type place ≡ ty)
  IsPassed s ty CopyBoth (place_arg place) = IsPlace s place × IsTrue (is_writable_place s place) × (place_type place ≡ ty)
  IsPassed s ty _ _ = ⊥

-- statements

-- a condition is a scalar of bool
abbrev pub IsCondition : Scope → Expr → Type 0
IsCondition s cond = IsExpr s cond × (type_of cond ≡ bool_type)

abbrev pub IsConditionIf : Scope → Option Expr → Type 0
IsConditionIf s None = Unit {0}
IsConditionIf s (Some cond) = IsCondition s cond

abbrev pub IsExprIf : Scope → Option Expr → Type 0
IsExprIf s None = Unit {0}
IsExprIf s (Some value) = IsExpr s value

-- a variable of the function, with a value of its type where it has an initialiser
abbrev pub IsLocal : Scope → ℕ → Option Expr → Type 0
IsLocal s variable None = variable < length s.variables
IsLocal s variable (Some init) = IsExpr s init × (variable_type s.variables variable ≡ Some (type_of init))

-- `return` has a value of the result's type, and none where there is no result
abbrev pub IsReturn : Scope → Option Expr → Type 0
IsReturn s None = s.result ≡ void_type
IsReturn s (Some value) = IsExpr s value × (type_of value ≡ s.result) × IsTrue (not (is_void s.result))

abbrev mutual
  -- `break` and `continue` stand in loops
  pub IsStmt : Scope → (in_loop : Bool) → Stmt → Type 0
  IsStmt s in_loop (block_stmt body) = AreStmts s in_loop body
  IsStmt s in_loop (local_stmt variable init) = IsLocal s variable init
  IsStmt s in_loop (run_stmt value) = IsExpr s value
  IsStmt s in_loop (if_stmt cond consequent alternative) = IsCondition s cond × IsStmt s in_loop consequent × IsStmtIf s in_loop alternative
  IsStmt s in_loop (for_stmt init cond step body) =
      AreStmts s in_loop init × IsConditionIf s cond × IsExprIf s step × IsStmt s true body
  IsStmt s in_loop (while_stmt cond body) = IsCondition s cond × IsStmt s true body
  IsStmt s in_loop (do_stmt body cond) = IsStmt s true body × IsCondition s cond
  IsStmt s in_loop break_stmt = IsTrue in_loop
  IsStmt s in_loop continue_stmt = IsTrue in_loop
  IsStmt s in_loop (return_stmt value) = IsReturn s value

  pub AreStmts : Scope → Bool → Stmts → Type 0
  AreStmts s in_loop no_stmts = Unit {0}
  AreStmts s in_loop (more_stmts first rest) = IsStmt s in_loop first × AreStmts s in_loop rest

  pub IsStmtIf : Scope → Bool → MaybeStmt → Type 0
  IsStmtIf s in_loop no_stmt = Unit {0}
  IsStmtIf s in_loop (some_stmt body) = IsStmt s in_loop body

-- Whether a statement always returns: `return` does, a block with such a statement does, and an `if` with both
-- branches such does.
abbrev mutual
  pub always_returns : Stmt → Bool
  always_returns (block_stmt body) = one_returns body
  always_returns (if_stmt cond consequent alternative) = always_returns consequent && returns_if alternative
  always_returns (return_stmt value) = true
  always_returns _ = false

  pub one_returns : Stmts → Bool
  one_returns no_stmts = false
  one_returns (more_stmts first rest) = always_returns first || one_returns rest

  pub returns_if : MaybeStmt → Bool
  returns_if no_stmt = false
  returns_if (some_stmt body) = always_returns body

-- programs

-- A struct has members, each of a type that names earlier structs alone, at the offsets and of the words of the layout.
pub record IsStruct (structs : List StructDef) (number : ℕ) (d : StructDef) : Type 0 where
  pub some_member : 0 < length d.members
  pub types : All (λ m. IsDeclared (take number structs) m.ty) d.members
  pub offsets : (place : ℕ) (m : Member) → slice_get d.members place ≡ Some m → m.offset ≡ member_offset structs d.members place
  pub words : d.words ≡ words_of structs (struct_type number)
  pub fits : d.words ≤ most_words

-- the greatest number of words of an element of a structured buffer
abbrev pub most_element_words : ℕ
most_element_words = 512

-- a byte-address buffer has no elements
abbrev pub IsElement : List StructDef → (raw : Bool) → Ty → Type 0
IsElement structs true ty = ty ≡ void_type
IsElement structs false ty = IsDeclared structs ty × (words_of structs ty ≤ most_element_words)

-- a buffer is read-only or writable
pub record IsResource (structs : List StructDef) (r : Resource) : Type 0 where
  pub class : r.class ≤ 1
  pub element : IsElement structs r.raw r.element
  pub words : r.words ≡ words_of structs r.element

-- words of 32 bits of these kinds, where a bool is 0 or 1
abbrev pub HoldWords : List Kind → List ℕ → Type 0
HoldWords [] [] = Unit {0}
HoldWords (kind ∷ kinds) (word ∷ words) = IsLiteralOf (scalar_type kind) word × HoldWords kinds words
HoldWords _ _ = ⊥

pub record IsConstant (structs : List StructDef) (c : Constant) : Type 0 where
  pub type : IsDeclared structs c.variable.ty
  pub words : HoldWords (kinds_of structs c.variable.ty) c.words

-- the variables of the parameters are the first ones, in order
abbrev pub AreNumberedFrom : ℕ → List Parameter → Type 0
AreNumberedFrom number [] = Unit {0}
AreNumberedFrom number (p ∷ parameters) = (p.variable ≡ number) × AreNumberedFrom (suc number) parameters

-- what a function of a number can name
abbrev pub scope_of : Program → ℕ → FunctionDef → Scope
scope_of p number f = record {
  structs = p.structs;
  resources = p.resources;
  shared = p.shared;
  constants = p.constants;
  functions = take number p.functions;
  variables = f.variables;
  result = f.result;
}

-- A function with a result doesn't end without a `return`.
pub record IsFunction (p : Program) (number : ℕ) (f : FunctionDef) : Type 0 where
  pub result : IsResult p.structs f.result
  pub variables : All (λ v. IsDeclared p.structs v.ty) f.variables
  pub numbered : AreNumberedFrom 0 f.parameters
  pub there : length f.parameters ≤ length f.variables
  pub body : AreStmts (scope_of p number f) false f.body
  pub returns : IsTrue (is_void f.result || one_returns f.body)

-- SV_GroupIndex is a scalar of int or uint, and the others may be vectors of 2 or 3 components too
abbrev pub HasSemantic : Semantic → Ty → Type 0
HasSemantic GroupIndex ty = IsWord ty
HasSemantic semantic ty = IsTrue (is_numeric ty) × (component_count ty ≤ 3)

abbrev pub HasSemanticIf : Option Semantic → Option Ty → Type 0
HasSemanticIf (Some semantic) (Some ty) = HasSemantic semantic ty
HasSemanticIf _ _ = ⊥

-- a parameter of the entry is `in` and has a semantic
pub record IsInput (variables : List Variable) (p : Parameter) : Type 0 where
  pub copying : p.copying ≡ CopyIn
  pub semantic : HasSemanticIf p.semantic (variable_type variables p.variable)

abbrev pub semantic_number : Option Semantic → ℕ
semantic_number None = 0
semantic_number (Some DispatchThreadId) = 1
semantic_number (Some GroupId) = 2
semantic_number (Some GroupThreadId) = 3
semantic_number (Some GroupIndex) = 4

pub record IsEntry (f : FunctionDef) : Type 0 where
  pub result : f.result ≡ void_type
  pub inputs : All (IsInput f.variables) f.parameters
  pub distinct : IsTrue (is_without_repeats (map (λ p. semantic_number p.semantic) f.parameters))

abbrev pub IsEntryIf : Option FunctionDef → Type 0
IsEntryIf None = ⊥
IsEntryIf (Some f) = IsEntry f

-- The threads of a group in each direction: at most 1024, 1024 and 64, and at most 1024 together.
abbrev pub AreThreads : List ℕ → Type 0
AreThreads (x ∷ y ∷ z ∷ []) =
    (1 ≤ x) × (x ≤ 1024) × (1 ≤ y) × (y ≤ 1024) × (1 ≤ z) × (z ≤ 64) × (x * y * z ≤ 1024)
AreThreads _ = ⊥

pub record IsWellFormed (p : Program) : Type 0 where
  pub structs : (number : ℕ) (d : StructDef) → slice_get p.structs number ≡ Some d → IsStruct p.structs number d
  pub resources : All (IsResource p.structs) p.resources
  pub shared : All (λ v. IsDeclared p.structs v.ty) p.shared
  pub constants : All (IsConstant p.structs) p.constants
  pub functions : (number : ℕ) (f : FunctionDef) → slice_get p.functions number ≡ Some f → IsFunction p number f
  pub entry : IsEntryIf (slice_get p.functions p.entry)
  pub threads : AreThreads p.threads
